-- Small logs, and what each judges of the line that comes next.
use Rattle.std.specs.Prelude.{[], ◌∷◌, ◌++◌}
use Rattle.algebra.specs.declared.expr.Expr.TheVariants.{Get, Select, Join, LeftJoin, Semi, Anti, Keep, Distinct, Group}
use Rattle.props.specs.declared.fact.Fact.TheVariants.{NotNull, WeakKey, StrongKey}
use Rattle.book.specs.declared.names.RuleName.TheVariants as rule
use Rattle.derivation.specs.declared.line.Line.TheVariants.{Founds, Adds, Unites, Alike, Gives}
use Rattle.derivation.specs.declared.line.LineReason.TheVariants as reason
use Rattle.derivation.specs.SmallLogs.{Stands, IsRefused, by_rule, equal_ids, falling_ids, without_dept, both, without_right_dept, both_right, equal_third_ids, without_right_id, one_table, two_tables, joined, left_joined, twice_joined, joined_of_three, left_joined_of_three, weakly_keyed}
use Rattle.derivation.specs.UnnestedExamples.{UnnestedRules, UnnestedConditions, UnnestedForms}

-- lines that name no rule
pub record WorkedLines : Type 0 where
  pub founds : Stands [] (Founds (Get 0))
  pub alike : Stands (one_table ++ Founds (Distinct 0) ∷ Founds (Distinct 0) ∷ []) (Alike 1 2)
  -- the two joins are alike, as the classes 2 and 3 are the same
  pub alike_over_others : Stands (two_tables ++ Founds (Distinct 0) ∷ Founds (Distinct 0) ∷ Alike 2 3 ∷ Founds (Join equal_ids 2 1) ∷ Founds (Join equal_ids 3 1) ∷ []) (Alike 5 6)
  pub not_null : Stands one_table (Gives 0 0 (NotNull 0))
  pub weak_key : Stands one_table (Gives 0 0 (WeakKey (0 ∷ [])))
  pub strong_key : Stands weakly_keyed (Gives 0 0 (StrongKey (0 ∷ [])))

-- lines by a step of each plain rule and each of outer joins (specs/UnnestedExamples has the others): most add an expression to a class, some say that two classes are the same
pub record WorkedRules : Type 0 where
  pub join_commutes : Stands joined (Adds 2 (by_rule rule.JoinCommutes (2 ∷ []) []) (Join equal_ids 1 0))
  pub join_commutes_united : Stands (joined ++ Founds (Join equal_ids 1 0) ∷ []) (Unites 2 3 (by_rule rule.JoinCommutes (2 ∷ []) (3 ∷ [])))
  pub join_associates : Stands (twice_joined ++ Founds (Join falling_ids 1 2) ∷ []) (Adds 4 (by_rule rule.JoinAssociates (4 ∷ 3 ∷ []) (5 ∷ [])) (Join equal_ids 0 5))
  pub selects_merge : Stands (joined ++ Founds (Select without_dept 2) ∷ Founds (Select equal_ids 3) ∷ []) (Adds 4 (by_rule rule.SelectsMerge (4 ∷ 3 ∷ []) []) (Select both 2))
  pub select_below_join : Stands (joined ++ Founds (Select without_dept 2) ∷ Founds (Select without_dept 0) ∷ [])
      (Adds 3 (by_rule rule.SelectBelowJoin (3 ∷ 2 ∷ []) (4 ∷ [])) (Join equal_ids 4 1))
  pub select_into_join : Stands (joined ++ Founds (Select without_dept 2) ∷ []) (Adds 3 (by_rule rule.SelectIntoJoin (3 ∷ 2 ∷ []) []) (Join both 0 1))
  pub condition_below_join : Stands (two_tables ++ Founds (Join both 0 1) ∷ Founds (Select without_dept 0) ∷ [])
      (Adds 2 (by_rule rule.ConditionBelowJoin (2 ∷ []) (3 ∷ [])) (Join equal_ids 3 1))
  pub select_below_semi : Stands (two_tables ++ Founds (Semi equal_ids 0 1) ∷ Founds (Select without_dept 2) ∷ Founds (Select without_dept 0) ∷ [])
      (Adds 3 (by_rule rule.SelectBelowSemi (3 ∷ 2 ∷ []) (4 ∷ [])) (Semi equal_ids 4 1))
  pub select_below_anti : Stands (two_tables ++ Founds (Anti equal_ids [] 0 1) ∷ Founds (Select without_dept 2) ∷ Founds (Select without_dept 0) ∷ [])
      (Adds 3 (by_rule rule.SelectBelowSemi (3 ∷ 2 ∷ []) (4 ∷ [])) (Anti equal_ids [] 4 1))
  pub keeps_merge : Stands (one_table ++ Founds (Keep (0 ∷ 1 ∷ []) 0) ∷ Founds (Keep (1 ∷ []) 1) ∷ []) (Adds 2 (by_rule rule.KeepsMerge (2 ∷ 1 ∷ []) []) (Keep (1 ∷ []) 0))
  pub keep_of_all : Stands (one_table ++ Founds (Keep (0 ∷ 1 ∷ []) 0) ∷ []) (Unites 1 0 (by_rule rule.KeepOfAll (1 ∷ []) []))
  pub keep_below_join : Stands (joined ++ Founds (Keep (2 ∷ []) 2) ∷ Founds (Keep (0 ∷ []) 0) ∷ Founds (Join equal_ids 4 1) ∷ [])
      (Adds 3 (by_rule rule.KeepBelowJoin (3 ∷ 2 ∷ []) (5 ∷ 4 ∷ [])) (Keep (2 ∷ []) 5))
  pub distinct_of_keyed : Stands (weakly_keyed ++ Gives 0 0 (StrongKey (0 ∷ [])) ∷ Founds (Distinct 0) ∷ []) (Unites 4 0 (by_rule rule.DistinctOfKeyed (4 ∷ []) []))
  pub group_is_distinct : Stands (one_table ++ Founds (Group (1 ∷ []) [] 0) ∷ Founds (Keep (1 ∷ []) 0) ∷ []) (Adds 1 (by_rule rule.GroupIsDistinct (1 ∷ []) (2 ∷ [])) (Distinct 2))
  -- where e1.id is Null, e0.id = e1.id isn't true
  pub outer_join_is_inner : Stands (left_joined ++ Founds (Select equal_ids 2) ∷ Founds (Join equal_ids 0 1) ∷ [])
      (Adds 3 (by_rule rule.OuterJoinIsInner (3 ∷ 2 ∷ []) (4 ∷ [])) (Select equal_ids 4))
  pub select_below_left_join : Stands (left_joined ++ Founds (Select without_dept 2) ∷ Founds (Select without_dept 0) ∷ [])
      (Adds 3 (by_rule rule.SelectBelowLeftJoin (3 ∷ 2 ∷ []) (4 ∷ [])) (LeftJoin equal_ids 4 1))
  pub condition_below_left_join : Stands (two_tables ++ Founds (LeftJoin both_right 0 1) ∷ Founds (Select without_right_dept 1) ∷ [])
      (Adds 2 (by_rule rule.ConditionBelowLeftJoin (2 ∷ []) (3 ∷ [])) (LeftJoin equal_ids 0 3))
  pub left_join_below_join : Stands (joined_of_three ++ Founds (LeftJoin equal_third_ids 3 2) ∷ Founds (LeftJoin equal_third_ids 0 2) ∷ [])
      (Adds 4 (by_rule rule.LeftJoinBelowJoin (4 ∷ 3 ∷ []) (5 ∷ [])) (Join equal_ids 5 1))
  pub left_join_above_join : Stands (left_joined_of_three ++ Founds (Join equal_third_ids 3 2) ∷ Founds (Join equal_third_ids 0 2) ∷ [])
      (Adds 4 (by_rule rule.LeftJoinAboveJoin (4 ∷ 3 ∷ []) (5 ∷ [])) (LeftJoin equal_ids 5 1))
  pub keep_of_left_side : Stands (two_tables ++ Gives 1 1 (WeakKey (2 ∷ [])) ∷ Founds (LeftJoin equal_ids 0 1) ∷ Founds (Keep (0 ∷ []) 3) ∷ [])
      (Adds 4 (by_rule rule.KeepOfLeftSide (4 ∷ 3 ∷ []) []) (Keep (0 ∷ []) 0))
  -- e1.id isn't Null where it is equal to e0.id
  pub outer_join_is_anti : Stands (left_joined ++ Founds (Select without_right_id 2) ∷ Founds (Keep (0 ∷ []) 3) ∷ Founds (Anti equal_ids [] 0 1) ∷ [])
      (Adds 4 (by_rule rule.OuterJoinIsAnti (4 ∷ 3 ∷ 2 ∷ []) (5 ∷ [])) (Keep (0 ∷ []) 5))

-- each of these rules that has a condition, where it fails
pub record WorkedConditions : Type 0 where
  -- the first join's condition reads the third table
  pub join_associates : IsRefused (two_tables ++ Founds (Get 2) ∷ Founds (Join falling_ids 0 1) ∷ Founds (Join equal_ids 3 2) ∷ [])
      (Adds 4 (by_rule rule.JoinAssociates (4 ∷ 3 ∷ []) []) (Join equal_ids 3 2)) (reason.FailedCondition rule.JoinAssociates)
  pub keep_of_all : IsRefused (one_table ++ Founds (Keep (0 ∷ []) 0) ∷ []) (Unites 1 1 (by_rule rule.KeepOfAll (1 ∷ []) [])) (reason.FailedCondition rule.KeepOfAll)
  -- all columns of the left side are kept
  pub keep_below_join : IsRefused (joined ++ Founds (Keep (0 ∷ 1 ∷ []) 2) ∷ []) (Adds 3 (by_rule rule.KeepBelowJoin (3 ∷ 2 ∷ []) []) (Keep (0 ∷ 1 ∷ []) 2))
      (reason.FailedCondition rule.KeepBelowJoin)
  pub distinct_of_keyed : IsRefused (one_table ++ Founds (Distinct 0) ∷ []) (Unites 1 0 (by_rule rule.DistinctOfKeyed (1 ∷ []) [])) (reason.FailedCondition rule.DistinctOfKeyed)
  -- there is no key
  pub group_is_distinct : IsRefused (one_table ++ Founds (Group [] [] 0) ∷ []) (Adds 1 (by_rule rule.GroupIsDistinct (1 ∷ []) []) (Group [] [] 0))
      (reason.FailedCondition rule.GroupIsDistinct)
  -- a row of e0 without a match may have no dept
  pub outer_join_is_inner : IsRefused (left_joined ++ Founds (Select without_dept 2) ∷ Founds (Join equal_ids 0 1) ∷ [])
      (Adds 3 (by_rule rule.OuterJoinIsInner (3 ∷ 2 ∷ []) (4 ∷ [])) (Select without_dept 4)) (reason.FailedCondition rule.OuterJoinIsInner)
  -- which rows of e2 a row finds depends on e1
  pub left_join_below_join : IsRefused (joined_of_three ++ Founds (LeftJoin falling_ids 3 2) ∷ [])
      (Adds 4 (by_rule rule.LeftJoinBelowJoin (4 ∷ 3 ∷ []) []) (LeftJoin falling_ids 3 2)) (reason.FailedCondition rule.LeftJoinBelowJoin)
  pub left_join_above_join : IsRefused (left_joined_of_three ++ Founds (Join falling_ids 3 2) ∷ [])
      (Adds 4 (by_rule rule.LeftJoinAboveJoin (4 ∷ 3 ∷ []) []) (Join falling_ids 3 2)) (reason.FailedCondition rule.LeftJoinAboveJoin)
  -- no key of e1 is known
  pub keep_of_left_side : IsRefused (left_joined ++ Founds (Keep (0 ∷ []) 2) ∷ [])
      (Adds 3 (by_rule rule.KeepOfLeftSide (3 ∷ 2 ∷ []) []) (Keep (0 ∷ []) 0)) (reason.FailedCondition rule.KeepOfLeftSide)
  -- a row of e1 may have no dept
  pub outer_join_is_anti : IsRefused (left_joined ++ Founds (Select without_right_dept 2) ∷ Founds (Keep (0 ∷ []) 3) ∷ Founds (Anti equal_ids [] 0 1) ∷ [])
      (Adds 4 (by_rule rule.OuterJoinIsAnti (4 ∷ 3 ∷ 2 ∷ []) (5 ∷ [])) (Keep (0 ∷ []) 5)) (reason.FailedCondition rule.OuterJoinIsAnti)

-- each rule of outer joins that moves conjuncts, where there are none that it may move
pub record WorkedForms : Type 0 where
  -- e1's columns are Null of a row of e0 without a match
  pub select_below_left_join : IsRefused (left_joined ++ Founds (Select without_right_dept 2) ∷ [])
      (Adds 3 (by_rule rule.SelectBelowLeftJoin (3 ∷ 2 ∷ []) []) (LeftJoin equal_ids 0 1)) reason.OtherForm
  -- a row of e0 that has a dept isn't lost
  pub condition_below_left_join : IsRefused (two_tables ++ Founds (LeftJoin both 0 1) ∷ Founds (Select without_dept 0) ∷ [])
      (Adds 2 (by_rule rule.ConditionBelowLeftJoin (2 ∷ []) (3 ∷ [])) (LeftJoin equal_ids 3 1)) reason.OtherForm

-- each other reason why a line may not stand
pub record WorkedRefusals : Type 0 where
  pub unknown_line : IsRefused one_table (Founds (Distinct 1)) reason.UnknownLine
  -- a class is named by the line that founds it
  pub unknown_class : IsRefused (one_table ++ Gives 0 0 (NotNull 0) ∷ []) (Founds (Distinct 1)) reason.UnknownLine
  pub ill_formed : IsRefused one_table (Founds (Keep (2 ∷ []) 0)) reason.IllFormed
  -- the columns of the two classes are others
  pub other_columns : IsRefused joined (Unites 2 0 (by_rule rule.JoinCommutes (2 ∷ []) [])) reason.IllFormed
  pub other_form : IsRefused (one_table ++ Founds (Distinct 0) ∷ []) (Unites 1 0 (by_rule rule.KeepOfAll (1 ∷ []) [])) reason.OtherForm
  -- the expressions differ in their columns
  pub unlike : IsRefused (one_table ++ Founds (Keep (0 ∷ []) 0) ∷ Founds (Keep (1 ∷ []) 0) ∷ []) (Alike 1 2) reason.OtherForm
  pub failed_fact : IsRefused one_table (Gives 0 0 (NotNull 1)) reason.FailedFact
  -- the sides haven't changed places
  pub other_line : IsRefused joined (Adds 2 (by_rule rule.JoinCommutes (2 ∷ []) []) (Join equal_ids 0 1)) reason.OtherLine

pub record WorkedLogs : Type 0 where
  pub lines : WorkedLines
  pub rules : WorkedRules
  pub conditions : WorkedConditions
  pub forms : WorkedForms
  pub unnested_rules : UnnestedRules
  pub unnested_conditions : UnnestedConditions
  pub unnested_forms : UnnestedForms
  pub refusals : WorkedRefusals
