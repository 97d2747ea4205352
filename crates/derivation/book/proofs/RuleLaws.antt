-- The laws of the rules of the book.
use Rattle.std.specs.List.{AllByRecursion}
use Rattle.outer_rules.proofs.ConditionBelowLeftJoin.{condition_below_left_join_sound, condition_below_left_join_keeps, condition_below_left_join_formed, condition_below_left_join_stable}
use Rattle.outer_rules.proofs.KeepOfLeftSide.{keep_of_left_side_sound, keep_of_left_side_keeps, keep_of_left_side_formed, keep_of_left_side_stable}
use Rattle.outer_rules.proofs.LeftJoinAboveJoin.{left_join_above_join_sound, left_join_above_join_keeps, left_join_above_join_formed, left_join_above_join_stable}
use Rattle.outer_rules.proofs.LeftJoinBelowJoin.{left_join_below_join_sound, left_join_below_join_keeps, left_join_below_join_formed, left_join_below_join_stable}
use Rattle.outer_rules.proofs.OuterJoinIsAnti.{outer_join_is_anti_sound, outer_join_is_anti_keeps, outer_join_is_anti_formed, outer_join_is_anti_stable}
use Rattle.outer_rules.proofs.OuterJoinIsInner.{outer_join_is_inner_sound, outer_join_is_inner_keeps, outer_join_is_inner_formed, outer_join_is_inner_stable}
use Rattle.outer_rules.proofs.SelectBelowLeftJoin.{select_below_left_join_sound, select_below_left_join_keeps, select_below_left_join_formed, select_below_left_join_stable}
use Rattle.plain_rules.proofs.ConditionBelowJoin.{condition_below_join_sound, condition_below_join_keeps, condition_below_join_formed, condition_below_join_stable}
use Rattle.plain_rules.proofs.DistinctOfKeyed.{distinct_of_keyed_sound, distinct_of_keyed_keeps, distinct_of_keyed_formed, distinct_of_keyed_stable}
use Rattle.plain_rules.proofs.GroupIsDistinct.{group_is_distinct_sound, group_is_distinct_keeps, group_is_distinct_formed, group_is_distinct_stable}
use Rattle.plain_rules.proofs.JoinAssociates.{join_associates_sound, join_associates_keeps, join_associates_formed, join_associates_stable}
use Rattle.plain_rules.proofs.JoinCommutes.{join_commutes_sound, join_commutes_keeps, join_commutes_formed, join_commutes_stable}
use Rattle.plain_rules.proofs.KeepBelowJoin.{keep_below_join_sound, keep_below_join_keeps, keep_below_join_formed, keep_below_join_stable}
use Rattle.plain_rules.proofs.KeepOfAll.{keep_of_all_sound, keep_of_all_keeps, keep_of_all_formed, keep_of_all_stable}
use Rattle.plain_rules.proofs.KeepsMerge.{keeps_merge_sound, keeps_merge_keeps, keeps_merge_formed, keeps_merge_stable}
use Rattle.plain_rules.proofs.SelectBelowGroup.{select_below_group_sound, select_below_group_keeps, select_below_group_formed, select_below_group_stable}
use Rattle.plain_rules.proofs.SelectBelowJoin.{select_below_join_sound, select_below_join_keeps, select_below_join_formed, select_below_join_stable}
use Rattle.plain_rules.proofs.SelectBelowSemi.{select_below_semi_sound, select_below_semi_keeps, select_below_semi_formed, select_below_semi_stable}
use Rattle.plain_rules.proofs.SelectIntoJoin.{select_into_join_sound, select_into_join_keeps, select_into_join_formed, select_into_join_stable}
use Rattle.plain_rules.proofs.SelectsMerge.{selects_merge_sound, selects_merge_keeps, selects_merge_formed, selects_merge_stable}
use Rattle.semijoin_rules.proofs.AntijoinOfFilled.{antijoin_of_filled_sound, antijoin_of_filled_keeps, antijoin_of_filled_formed, antijoin_of_filled_stable}
use Rattle.semijoin_rules.proofs.SemijoinBelowJoin.{semijoin_below_join_sound, semijoin_below_join_keeps, semijoin_below_join_formed, semijoin_below_join_stable}
use Rattle.semijoin_rules.proofs.SemijoinIsJoin.{semijoin_is_join_sound, semijoin_is_join_keeps, semijoin_is_join_formed, semijoin_is_join_stable}
use Rattle.subquery_rules.proofs.ExistsIsSemi.{exists_is_semi_sound, exists_is_semi_keeps, exists_is_semi_formed, exists_is_semi_stable}
use Rattle.subquery_rules.proofs.ExistsOfSelectIsSemi.{exists_of_select_is_semi_sound, exists_of_select_is_semi_keeps, exists_of_select_is_semi_formed, exists_of_select_is_semi_stable}
use Rattle.subquery_rules.proofs.InIsSemi.{in_is_semi_sound, in_is_semi_keeps, in_is_semi_formed, in_is_semi_stable}
use Rattle.subquery_rules.proofs.InSelectIsSemi.{in_select_is_semi_sound, in_select_is_semi_keeps, in_select_is_semi_formed, in_select_is_semi_stable}
use Rattle.subquery_rules.proofs.NotExistsIsAnti.{not_exists_is_anti_sound, not_exists_is_anti_keeps, not_exists_is_anti_formed, not_exists_is_anti_stable}
use Rattle.subquery_rules.proofs.NotExistsOfSelectIsAnti.{not_exists_of_select_is_anti_sound, not_exists_of_select_is_anti_keeps, not_exists_of_select_is_anti_formed, not_exists_of_select_is_anti_stable}
use Rattle.subquery_rules.proofs.NotInIsAnti.{not_in_is_anti_sound, not_in_is_anti_keeps, not_in_is_anti_formed, not_in_is_anti_stable}
use Rattle.subquery_rules.proofs.NotInSelectIsAnti.{not_in_select_is_anti_sound, not_in_select_is_anti_keeps, not_in_select_is_anti_formed, not_in_select_is_anti_stable}
use Rattle.subquery_rules.proofs.SubqueryOfInput.{subquery_of_input_sound, subquery_of_input_keeps, subquery_of_input_formed, subquery_of_input_stable}
use Rattle.book.specs.declared.names.RuleName.{RuleName}
use Rattle.book.specs.declared.names.RuleName.TheVariants.{JoinCommutes, JoinAssociates, SelectsMerge, SelectBelowJoin, SelectIntoJoin, ConditionBelowJoin, SelectBelowSemi, KeepsMerge, KeepOfAll, KeepBelowJoin, DistinctOfKeyed, GroupIsDistinct, SelectBelowGroup, OuterJoinIsInner, SelectBelowLeftJoin, ConditionBelowLeftJoin, LeftJoinBelowJoin, LeftJoinAboveJoin, KeepOfLeftSide, OuterJoinIsAnti, ExistsIsSemi, NotExistsIsAnti, InIsSemi, NotInIsAnti, AntijoinOfFilled, SubqueryOfInput, ExistsOfSelectIsSemi, NotExistsOfSelectIsAnti, InSelectIsSemi, NotInSelectIsAnti, SemijoinBelowJoin, SemijoinIsJoin}
use Rattle.book.specs.Book.{rules, BookIsSound, BookKeepsToPatterns, BookIsFormed, BookIsStable}

pub book_sound : BookIsSound
book_sound JoinCommutes = join_commutes_sound
book_sound JoinAssociates = join_associates_sound
book_sound SelectsMerge = selects_merge_sound
book_sound SelectBelowJoin = select_below_join_sound
book_sound SelectIntoJoin = select_into_join_sound
book_sound ConditionBelowJoin = condition_below_join_sound
book_sound SelectBelowSemi = select_below_semi_sound
book_sound KeepsMerge = keeps_merge_sound
book_sound KeepOfAll = keep_of_all_sound
book_sound KeepBelowJoin = keep_below_join_sound
book_sound DistinctOfKeyed = distinct_of_keyed_sound
book_sound GroupIsDistinct = group_is_distinct_sound
book_sound SelectBelowGroup = select_below_group_sound
book_sound OuterJoinIsInner = outer_join_is_inner_sound
book_sound SelectBelowLeftJoin = select_below_left_join_sound
book_sound ConditionBelowLeftJoin = condition_below_left_join_sound
book_sound LeftJoinBelowJoin = left_join_below_join_sound
book_sound LeftJoinAboveJoin = left_join_above_join_sound
book_sound KeepOfLeftSide = keep_of_left_side_sound
book_sound OuterJoinIsAnti = outer_join_is_anti_sound
book_sound ExistsIsSemi = exists_is_semi_sound
book_sound NotExistsIsAnti = not_exists_is_anti_sound
book_sound InIsSemi = in_is_semi_sound
book_sound NotInIsAnti = not_in_is_anti_sound
book_sound AntijoinOfFilled = antijoin_of_filled_sound
book_sound SubqueryOfInput = subquery_of_input_sound
book_sound ExistsOfSelectIsSemi = exists_of_select_is_semi_sound
book_sound NotExistsOfSelectIsAnti = not_exists_of_select_is_anti_sound
book_sound InSelectIsSemi = in_select_is_semi_sound
book_sound NotInSelectIsAnti = not_in_select_is_anti_sound
book_sound SemijoinBelowJoin = semijoin_below_join_sound
book_sound SemijoinIsJoin = semijoin_is_join_sound

pub book_keeps : BookKeepsToPatterns
book_keeps JoinCommutes = join_commutes_keeps
book_keeps JoinAssociates = join_associates_keeps
book_keeps SelectsMerge = selects_merge_keeps
book_keeps SelectBelowJoin = select_below_join_keeps
book_keeps SelectIntoJoin = select_into_join_keeps
book_keeps ConditionBelowJoin = condition_below_join_keeps
book_keeps SelectBelowSemi = select_below_semi_keeps
book_keeps KeepsMerge = keeps_merge_keeps
book_keeps KeepOfAll = keep_of_all_keeps
book_keeps KeepBelowJoin = keep_below_join_keeps
book_keeps DistinctOfKeyed = distinct_of_keyed_keeps
book_keeps GroupIsDistinct = group_is_distinct_keeps
book_keeps SelectBelowGroup = select_below_group_keeps
book_keeps OuterJoinIsInner = outer_join_is_inner_keeps
book_keeps SelectBelowLeftJoin = select_below_left_join_keeps
book_keeps ConditionBelowLeftJoin = condition_below_left_join_keeps
book_keeps LeftJoinBelowJoin = left_join_below_join_keeps
book_keeps LeftJoinAboveJoin = left_join_above_join_keeps
book_keeps KeepOfLeftSide = keep_of_left_side_keeps
book_keeps OuterJoinIsAnti = outer_join_is_anti_keeps
book_keeps ExistsIsSemi = exists_is_semi_keeps
book_keeps NotExistsIsAnti = not_exists_is_anti_keeps
book_keeps InIsSemi = in_is_semi_keeps
book_keeps NotInIsAnti = not_in_is_anti_keeps
book_keeps AntijoinOfFilled = antijoin_of_filled_keeps
book_keeps SubqueryOfInput = subquery_of_input_keeps
book_keeps ExistsOfSelectIsSemi = exists_of_select_is_semi_keeps
book_keeps NotExistsOfSelectIsAnti = not_exists_of_select_is_anti_keeps
book_keeps InSelectIsSemi = in_select_is_semi_keeps
book_keeps NotInSelectIsAnti = not_in_select_is_anti_keeps
book_keeps SemijoinBelowJoin = semijoin_below_join_keeps
book_keeps SemijoinIsJoin = semijoin_is_join_keeps

pub book_formed : BookIsFormed
book_formed JoinCommutes = join_commutes_formed
book_formed JoinAssociates = join_associates_formed
book_formed SelectsMerge = selects_merge_formed
book_formed SelectBelowJoin = select_below_join_formed
book_formed SelectIntoJoin = select_into_join_formed
book_formed ConditionBelowJoin = condition_below_join_formed
book_formed SelectBelowSemi = select_below_semi_formed
book_formed KeepsMerge = keeps_merge_formed
book_formed KeepOfAll = keep_of_all_formed
book_formed KeepBelowJoin = keep_below_join_formed
book_formed DistinctOfKeyed = distinct_of_keyed_formed
book_formed GroupIsDistinct = group_is_distinct_formed
book_formed SelectBelowGroup = select_below_group_formed
book_formed OuterJoinIsInner = outer_join_is_inner_formed
book_formed SelectBelowLeftJoin = select_below_left_join_formed
book_formed ConditionBelowLeftJoin = condition_below_left_join_formed
book_formed LeftJoinBelowJoin = left_join_below_join_formed
book_formed LeftJoinAboveJoin = left_join_above_join_formed
book_formed KeepOfLeftSide = keep_of_left_side_formed
book_formed OuterJoinIsAnti = outer_join_is_anti_formed
book_formed ExistsIsSemi = exists_is_semi_formed
book_formed NotExistsIsAnti = not_exists_is_anti_formed
book_formed InIsSemi = in_is_semi_formed
book_formed NotInIsAnti = not_in_is_anti_formed
book_formed AntijoinOfFilled = antijoin_of_filled_formed
book_formed SubqueryOfInput = subquery_of_input_formed
book_formed ExistsOfSelectIsSemi = exists_of_select_is_semi_formed
book_formed NotExistsOfSelectIsAnti = not_exists_of_select_is_anti_formed
book_formed InSelectIsSemi = in_select_is_semi_formed
book_formed NotInSelectIsAnti = not_in_select_is_anti_formed
book_formed SemijoinBelowJoin = semijoin_below_join_formed
book_formed SemijoinIsJoin = semijoin_is_join_formed

pub book_stable : BookIsStable
book_stable JoinCommutes = join_commutes_stable
book_stable JoinAssociates = join_associates_stable
book_stable SelectsMerge = selects_merge_stable
book_stable SelectBelowJoin = select_below_join_stable
book_stable SelectIntoJoin = select_into_join_stable
book_stable ConditionBelowJoin = condition_below_join_stable
book_stable SelectBelowSemi = select_below_semi_stable
book_stable KeepsMerge = keeps_merge_stable
book_stable KeepOfAll = keep_of_all_stable
book_stable KeepBelowJoin = keep_below_join_stable
book_stable DistinctOfKeyed = distinct_of_keyed_stable
book_stable GroupIsDistinct = group_is_distinct_stable
book_stable SelectBelowGroup = select_below_group_stable
book_stable OuterJoinIsInner = outer_join_is_inner_stable
book_stable SelectBelowLeftJoin = select_below_left_join_stable
book_stable ConditionBelowLeftJoin = condition_below_left_join_stable
book_stable LeftJoinBelowJoin = left_join_below_join_stable
book_stable LeftJoinAboveJoin = left_join_above_join_stable
book_stable KeepOfLeftSide = keep_of_left_side_stable
book_stable OuterJoinIsAnti = outer_join_is_anti_stable
book_stable ExistsIsSemi = exists_is_semi_stable
book_stable NotExistsIsAnti = not_exists_is_anti_stable
book_stable InIsSemi = in_is_semi_stable
book_stable NotInIsAnti = not_in_is_anti_stable
book_stable AntijoinOfFilled = antijoin_of_filled_stable
book_stable SubqueryOfInput = subquery_of_input_stable
book_stable ExistsOfSelectIsSemi = exists_of_select_is_semi_stable
book_stable NotExistsOfSelectIsAnti = not_exists_of_select_is_anti_stable
book_stable InSelectIsSemi = in_select_is_semi_stable
book_stable NotInSelectIsAnti = not_in_select_is_anti_stable
book_stable SemijoinBelowJoin = semijoin_below_join_stable
book_stable SemijoinIsJoin = semijoin_is_join_stable

-- what is so of each rule that is listed is so of each
pub each_rule : (P : RuleName → Type 0) → AllByRecursion P rules → (rule : RuleName) → P rule
each_rule P all JoinCommutes = all.0
each_rule P all JoinAssociates = all.1.0
each_rule P all SelectsMerge = all.1.1.0
each_rule P all SelectBelowJoin = all.1.1.1.0
each_rule P all SelectIntoJoin = all.1.1.1.1.0
each_rule P all ConditionBelowJoin = all.1.1.1.1.1.0
each_rule P all SelectBelowSemi = all.1.1.1.1.1.1.0
each_rule P all KeepsMerge = all.1.1.1.1.1.1.1.0
each_rule P all KeepOfAll = all.1.1.1.1.1.1.1.1.0
each_rule P all KeepBelowJoin = all.1.1.1.1.1.1.1.1.1.0
each_rule P all DistinctOfKeyed = all.1.1.1.1.1.1.1.1.1.1.0
each_rule P all GroupIsDistinct = all.1.1.1.1.1.1.1.1.1.1.1.0
each_rule P all SelectBelowGroup = all.1.1.1.1.1.1.1.1.1.1.1.1.0
each_rule P all OuterJoinIsInner = all.1.1.1.1.1.1.1.1.1.1.1.1.1.0
each_rule P all SelectBelowLeftJoin = all.1.1.1.1.1.1.1.1.1.1.1.1.1.1.0
each_rule P all ConditionBelowLeftJoin = all.1.1.1.1.1.1.1.1.1.1.1.1.1.1.1.0
each_rule P all LeftJoinBelowJoin = all.1.1.1.1.1.1.1.1.1.1.1.1.1.1.1.1.0
each_rule P all LeftJoinAboveJoin = all.1.1.1.1.1.1.1.1.1.1.1.1.1.1.1.1.1.0
each_rule P all KeepOfLeftSide = all.1.1.1.1.1.1.1.1.1.1.1.1.1.1.1.1.1.1.0
each_rule P all OuterJoinIsAnti = all.1.1.1.1.1.1.1.1.1.1.1.1.1.1.1.1.1.1.1.0
each_rule P all ExistsIsSemi = all.1.1.1.1.1.1.1.1.1.1.1.1.1.1.1.1.1.1.1.1.0
each_rule P all NotExistsIsAnti = all.1.1.1.1.1.1.1.1.1.1.1.1.1.1.1.1.1.1.1.1.1.0
each_rule P all InIsSemi = all.1.1.1.1.1.1.1.1.1.1.1.1.1.1.1.1.1.1.1.1.1.1.0
each_rule P all NotInIsAnti = all.1.1.1.1.1.1.1.1.1.1.1.1.1.1.1.1.1.1.1.1.1.1.1.0
each_rule P all AntijoinOfFilled = all.1.1.1.1.1.1.1.1.1.1.1.1.1.1.1.1.1.1.1.1.1.1.1.1.0
each_rule P all SubqueryOfInput = all.1.1.1.1.1.1.1.1.1.1.1.1.1.1.1.1.1.1.1.1.1.1.1.1.1.0
each_rule P all ExistsOfSelectIsSemi = all.1.1.1.1.1.1.1.1.1.1.1.1.1.1.1.1.1.1.1.1.1.1.1.1.1.1.0
each_rule P all NotExistsOfSelectIsAnti = all.1.1.1.1.1.1.1.1.1.1.1.1.1.1.1.1.1.1.1.1.1.1.1.1.1.1.1.0
each_rule P all InSelectIsSemi = all.1.1.1.1.1.1.1.1.1.1.1.1.1.1.1.1.1.1.1.1.1.1.1.1.1.1.1.1.0
each_rule P all NotInSelectIsAnti = all.1.1.1.1.1.1.1.1.1.1.1.1.1.1.1.1.1.1.1.1.1.1.1.1.1.1.1.1.1.0
each_rule P all SemijoinBelowJoin = all.1.1.1.1.1.1.1.1.1.1.1.1.1.1.1.1.1.1.1.1.1.1.1.1.1.1.1.1.1.1.0
each_rule P all SemijoinIsJoin = all.1.1.1.1.1.1.1.1.1.1.1.1.1.1.1.1.1.1.1.1.1.1.1.1.1.1.1.1.1.1.1.0
