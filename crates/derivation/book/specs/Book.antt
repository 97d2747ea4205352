-- The rules by their names in certificates, the lines that each takes, and what it gives.
use Rattle.std.specs.Prelude.{ℕ, List, [], ◌∷◌, Result, codes}
use Rattle.book.specs.declared.names.RuleName.{RuleName}
use Rattle.book.specs.declared.names.RuleName.TheVariants.{JoinCommutes, JoinAssociates, SelectsMerge, SelectBelowJoin, SelectIntoJoin, ConditionBelowJoin, SelectBelowSemi, KeepsMerge, KeepOfAll, KeepBelowJoin, DistinctOfKeyed, GroupIsDistinct, SelectBelowGroup, OuterJoinIsInner, SelectBelowLeftJoin, ConditionBelowLeftJoin, LeftJoinBelowJoin, LeftJoinAboveJoin, KeepOfLeftSide, OuterJoinIsAnti, ExistsIsSemi, NotExistsIsAnti, InIsSemi, NotInIsAnti, AntijoinOfFilled, SubqueryOfInput, ExistsOfSelectIsSemi, NotExistsOfSelectIsAnti, InSelectIsSemi, NotInSelectIsAnti, SemijoinBelowJoin, SemijoinIsJoin}
use Rattle.rules.specs.declared.shape.Shape.{Shape}
use Rattle.rules.specs.declared.unfit.Unfit.{Unfit}
use Rattle.rules.specs.declared.pattern.Pattern.{Pattern}
use Rattle.rules.specs.declared.promise.Promise.{Promise}
use Rattle.rules.specs.Formed.{IsFormed}
use Rattle.rules.specs.Matches.{Matched}
use Rattle.rules.specs.Patterns.{KeepsTo}
use Rattle.rules.specs.Soundness.{IsSound}
use Rattle.rules.specs.Stability.{IsStable}
use Rattle.outer_rules.specs.ConditionBelowLeftJoin as condition_below_left_join
use Rattle.outer_rules.specs.KeepOfLeftSide as keep_of_left_side
use Rattle.outer_rules.specs.LeftJoinAboveJoin as left_join_above_join
use Rattle.outer_rules.specs.LeftJoinBelowJoin as left_join_below_join
use Rattle.outer_rules.specs.OuterJoinIsAnti as outer_join_is_anti
use Rattle.outer_rules.specs.OuterJoinIsInner as outer_join_is_inner
use Rattle.outer_rules.specs.SelectBelowLeftJoin as select_below_left_join
use Rattle.plain_rules.specs.ConditionBelowJoin as condition_below_join
use Rattle.plain_rules.specs.DistinctOfKeyed as distinct_of_keyed
use Rattle.plain_rules.specs.GroupIsDistinct as group_is_distinct
use Rattle.plain_rules.specs.JoinAssociates as join_associates
use Rattle.plain_rules.specs.JoinCommutes as join_commutes
use Rattle.plain_rules.specs.KeepBelowJoin as keep_below_join
use Rattle.plain_rules.specs.KeepOfAll as keep_of_all
use Rattle.plain_rules.specs.KeepsMerge as keeps_merge
use Rattle.plain_rules.specs.SelectBelowGroup as select_below_group
use Rattle.plain_rules.specs.SelectBelowJoin as select_below_join
use Rattle.plain_rules.specs.SelectBelowSemi as select_below_semi
use Rattle.plain_rules.specs.SelectIntoJoin as select_into_join
use Rattle.plain_rules.specs.SelectsMerge as selects_merge
use Rattle.semijoin_rules.specs.AntijoinOfFilled as antijoin_of_filled
use Rattle.semijoin_rules.specs.SemijoinBelowJoin as semijoin_below_join
use Rattle.semijoin_rules.specs.SemijoinIsJoin as semijoin_is_join
use Rattle.subquery_rules.specs.ExistsIsSemi as exists_is_semi
use Rattle.subquery_rules.specs.ExistsOfSelectIsSemi as exists_of_select_is_semi
use Rattle.subquery_rules.specs.InIsSemi as in_is_semi
use Rattle.subquery_rules.specs.InSelectIsSemi as in_select_is_semi
use Rattle.subquery_rules.specs.NotExistsIsAnti as not_exists_is_anti
use Rattle.subquery_rules.specs.NotExistsOfSelectIsAnti as not_exists_of_select_is_anti
use Rattle.subquery_rules.specs.NotInIsAnti as not_in_is_anti
use Rattle.subquery_rules.specs.NotInSelectIsAnti as not_in_select_is_anti
use Rattle.subquery_rules.specs.SubqueryOfInput as subquery_of_input

abbrev pub rules : List RuleName
rules = JoinCommutes ∷ JoinAssociates ∷ SelectsMerge ∷ SelectBelowJoin ∷ SelectIntoJoin ∷ ConditionBelowJoin ∷ SelectBelowSemi ∷ KeepsMerge ∷ KeepOfAll ∷ KeepBelowJoin ∷ DistinctOfKeyed ∷ GroupIsDistinct ∷ SelectBelowGroup ∷ OuterJoinIsInner ∷ SelectBelowLeftJoin ∷ ConditionBelowLeftJoin ∷ LeftJoinBelowJoin ∷ LeftJoinAboveJoin ∷ KeepOfLeftSide ∷ OuterJoinIsAnti ∷ ExistsIsSemi ∷ NotExistsIsAnti ∷ InIsSemi ∷ NotInIsAnti ∷ AntijoinOfFilled ∷ SubqueryOfInput ∷ ExistsOfSelectIsSemi ∷ NotExistsOfSelectIsAnti ∷ InSelectIsSemi ∷ NotInSelectIsAnti ∷ SemijoinBelowJoin ∷ SemijoinIsJoin ∷ []

abbrev pub code_of : RuleName → List ℕ
code_of JoinCommutes = codes "J1"
code_of JoinAssociates = codes "J2"
code_of SelectsMerge = codes "S1"
code_of SelectBelowJoin = codes "S2"
code_of SelectIntoJoin = codes "S3"
code_of ConditionBelowJoin = codes "S4"
code_of SelectBelowSemi = codes "S5"
code_of KeepsMerge = codes "K1"
code_of KeepOfAll = codes "K2"
code_of KeepBelowJoin = codes "K3"
code_of DistinctOfKeyed = codes "D1"
code_of GroupIsDistinct = codes "G1"
code_of SelectBelowGroup = codes "G2"
code_of OuterJoinIsInner = codes "O1"
code_of SelectBelowLeftJoin = codes "O2"
code_of ConditionBelowLeftJoin = codes "O3"
code_of LeftJoinBelowJoin = codes "O4"
code_of LeftJoinAboveJoin = codes "O5"
code_of KeepOfLeftSide = codes "O6"
code_of OuterJoinIsAnti = codes "O7"
code_of ExistsIsSemi = codes "U1"
code_of NotExistsIsAnti = codes "U2"
code_of InIsSemi = codes "U3"
code_of NotInIsAnti = codes "U4"
code_of AntijoinOfFilled = codes "U5"
code_of SubqueryOfInput = codes "U6"
code_of ExistsOfSelectIsSemi = codes "U7"
code_of NotExistsOfSelectIsAnti = codes "U8"
code_of InSelectIsSemi = codes "U9"
code_of NotInSelectIsAnti = codes "U10"
code_of SemijoinBelowJoin = codes "U11"
code_of SemijoinIsJoin = codes "U12"

abbrev pub given_by : RuleName → Matched → Result Shape Unfit
given_by JoinCommutes = join_commutes.join_commutes
given_by JoinAssociates = join_associates.join_associates
given_by SelectsMerge = selects_merge.selects_merge
given_by SelectBelowJoin = select_below_join.select_below_join
given_by SelectIntoJoin = select_into_join.select_into_join
given_by ConditionBelowJoin = condition_below_join.condition_below_join
given_by SelectBelowSemi = select_below_semi.select_below_semi
given_by KeepsMerge = keeps_merge.keeps_merge
given_by KeepOfAll = keep_of_all.keep_of_all
given_by KeepBelowJoin = keep_below_join.keep_below_join
given_by DistinctOfKeyed = distinct_of_keyed.distinct_of_keyed
given_by GroupIsDistinct = group_is_distinct.group_is_distinct
given_by SelectBelowGroup = select_below_group.select_below_group
given_by OuterJoinIsInner = outer_join_is_inner.outer_join_is_inner
given_by SelectBelowLeftJoin = select_below_left_join.select_below_left_join
given_by ConditionBelowLeftJoin = condition_below_left_join.condition_below_left_join
given_by LeftJoinBelowJoin = left_join_below_join.left_join_below_join
given_by LeftJoinAboveJoin = left_join_above_join.left_join_above_join
given_by KeepOfLeftSide = keep_of_left_side.keep_of_left_side
given_by OuterJoinIsAnti = outer_join_is_anti.outer_join_is_anti
given_by ExistsIsSemi = exists_is_semi.exists_is_semi
given_by NotExistsIsAnti = not_exists_is_anti.not_exists_is_anti
given_by InIsSemi = in_is_semi.in_is_semi
given_by NotInIsAnti = not_in_is_anti.not_in_is_anti
given_by AntijoinOfFilled = antijoin_of_filled.antijoin_of_filled
given_by SubqueryOfInput = subquery_of_input.subquery_of_input
given_by ExistsOfSelectIsSemi = exists_of_select_is_semi.exists_of_select_is_semi
given_by NotExistsOfSelectIsAnti = not_exists_of_select_is_anti.not_exists_of_select_is_anti
given_by InSelectIsSemi = in_select_is_semi.in_select_is_semi
given_by NotInSelectIsAnti = not_in_select_is_anti.not_in_select_is_anti
given_by SemijoinBelowJoin = semijoin_below_join.semijoin_below_join
given_by SemijoinIsJoin = semijoin_is_join.semijoin_is_join

abbrev pub pattern_of : RuleName → Pattern
pattern_of JoinCommutes = join_commutes.pattern
pattern_of JoinAssociates = join_associates.pattern
pattern_of SelectsMerge = selects_merge.pattern
pattern_of SelectBelowJoin = select_below_join.pattern
pattern_of SelectIntoJoin = select_into_join.pattern
pattern_of ConditionBelowJoin = condition_below_join.pattern
pattern_of SelectBelowSemi = select_below_semi.pattern
pattern_of KeepsMerge = keeps_merge.pattern
pattern_of KeepOfAll = keep_of_all.pattern
pattern_of KeepBelowJoin = keep_below_join.pattern
pattern_of DistinctOfKeyed = distinct_of_keyed.pattern
pattern_of GroupIsDistinct = group_is_distinct.pattern
pattern_of SelectBelowGroup = select_below_group.pattern
pattern_of OuterJoinIsInner = outer_join_is_inner.pattern
pattern_of SelectBelowLeftJoin = select_below_left_join.pattern
pattern_of ConditionBelowLeftJoin = condition_below_left_join.pattern
pattern_of LeftJoinBelowJoin = left_join_below_join.pattern
pattern_of LeftJoinAboveJoin = left_join_above_join.pattern
pattern_of KeepOfLeftSide = keep_of_left_side.pattern
pattern_of OuterJoinIsAnti = outer_join_is_anti.pattern
pattern_of ExistsIsSemi = exists_is_semi.pattern
pattern_of NotExistsIsAnti = not_exists_is_anti.pattern
pattern_of InIsSemi = in_is_semi.pattern
pattern_of NotInIsAnti = not_in_is_anti.pattern
pattern_of AntijoinOfFilled = antijoin_of_filled.pattern
pattern_of SubqueryOfInput = subquery_of_input.pattern
pattern_of ExistsOfSelectIsSemi = exists_of_select_is_semi.pattern
pattern_of NotExistsOfSelectIsAnti = not_exists_of_select_is_anti.pattern
pattern_of InSelectIsSemi = in_select_is_semi.pattern
pattern_of NotInSelectIsAnti = not_in_select_is_anti.pattern
pattern_of SemijoinBelowJoin = semijoin_below_join.pattern
pattern_of SemijoinIsJoin = semijoin_is_join.pattern

abbrev pub promise_of : RuleName → Matched → Promise
promise_of JoinCommutes = join_commutes.promise
promise_of JoinAssociates = join_associates.promise
promise_of SelectsMerge = selects_merge.promise
promise_of SelectBelowJoin = select_below_join.promise
promise_of SelectIntoJoin = select_into_join.promise
promise_of ConditionBelowJoin = condition_below_join.promise
promise_of SelectBelowSemi = select_below_semi.promise
promise_of KeepsMerge = keeps_merge.promise
promise_of KeepOfAll = keep_of_all.promise
promise_of KeepBelowJoin = keep_below_join.promise
promise_of DistinctOfKeyed = distinct_of_keyed.promise
promise_of GroupIsDistinct = group_is_distinct.promise
promise_of SelectBelowGroup = select_below_group.promise
promise_of OuterJoinIsInner = outer_join_is_inner.promise
promise_of SelectBelowLeftJoin = select_below_left_join.promise
promise_of ConditionBelowLeftJoin = condition_below_left_join.promise
promise_of LeftJoinBelowJoin = left_join_below_join.promise
promise_of LeftJoinAboveJoin = left_join_above_join.promise
promise_of KeepOfLeftSide = keep_of_left_side.promise
promise_of OuterJoinIsAnti = outer_join_is_anti.promise
promise_of ExistsIsSemi = exists_is_semi.promise
promise_of NotExistsIsAnti = not_exists_is_anti.promise
promise_of InIsSemi = in_is_semi.promise
promise_of NotInIsAnti = not_in_is_anti.promise
promise_of AntijoinOfFilled = antijoin_of_filled.promise
promise_of SubqueryOfInput = subquery_of_input.promise
promise_of ExistsOfSelectIsSemi = exists_of_select_is_semi.promise
promise_of NotExistsOfSelectIsAnti = not_exists_of_select_is_anti.promise
promise_of InSelectIsSemi = in_select_is_semi.promise
promise_of NotInSelectIsAnti = not_in_select_is_anti.promise
promise_of SemijoinBelowJoin = semijoin_below_join.promise
promise_of SemijoinIsJoin = semijoin_is_join.promise

-- ---- laws of each rule of the book

abbrev pub BookIsSound : Type 0
BookIsSound = (rule : RuleName) → IsSound (given_by rule)

abbrev pub BookKeepsToPatterns : Type 0
BookKeepsToPatterns = (rule : RuleName) → KeepsTo (pattern_of rule) (given_by rule)

abbrev pub BookIsFormed : Type 0
BookIsFormed = (rule : RuleName) → IsFormed (given_by rule)

abbrev pub BookIsStable : Type 0
BookIsStable = (rule : RuleName) → IsStable (given_by rule)
