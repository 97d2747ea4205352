-- Small logs with subqueries, semijoins and antijoins, and what each judges of a step of a rule that makes joins of them.
use Rattle.std.specs.Prelude.{ℕ, List, [], ◌∷◌, ◌++◌}
use Rattle.values.specs.declared.truth.Comparison.TheVariants as by
use Rattle.algebra.specs.declared.condition.Condition.{Condition}
use Rattle.algebra.specs.declared.condition.Condition.TheVariants.{Compare, Not, Exists, In}
use Rattle.algebra.specs.declared.condition.Term.TheVariants.{Column}
use Rattle.algebra.specs.declared.expr.Expr.TheVariants.{Get, Select, Join, Semi, Anti, Keep, Distinct}
use Rattle.props.specs.declared.fact.Fact.TheVariants.{NotNull, WeakKey}
use Rattle.book.specs.declared.names.RuleName.TheVariants as rule
use Rattle.derivation.specs.declared.line.Line.{Line}
use Rattle.derivation.specs.declared.line.Line.TheVariants.{Founds, Adds, Gives}
use Rattle.derivation.specs.declared.line.LineReason.TheVariants as reason
use Rattle.derivation.specs.SmallLogs.{Stands, IsRefused, by_rule, by_pick, equal_ids, falling_ids, without_dept, without_right_dept, equal_third_ids, two_tables, joined_of_three}

-- ---- conditions: subqueries over rows of e1 are named by the class of those rows

-- EXISTS (SELECT * FROM e1)
abbrev pub some_row : ℕ → List Condition
some_row g = Exists g ∷ []

-- NOT EXISTS (SELECT * FROM e1)
abbrev pub no_row : ℕ → List Condition
no_row g = Not (Exists g) ∷ []

-- e0.dept IN (SELECT e1.id FROM e1)
abbrev pub dept_among : ℕ → List Condition
dept_among g = In (Column 1) g 2 ∷ []

-- e0.dept NOT IN (SELECT e1.id FROM e1)
abbrev pub dept_not_among : ℕ → List Condition
dept_not_among g = Not (In (Column 1) g 2) ∷ []

-- e0.dept = e1.id
abbrev pub equal_dept : List Condition
equal_dept = Compare by.Equal (Column 1) (Column 2) ∷ []

-- e0.dept = e1.id AND e1.dept IS NULL
abbrev pub equal_dept_without : List Condition
equal_dept_without = equal_dept ++ without_right_dept

-- e0.id = e0.dept
abbrev pub own_dept : List Condition
own_dept = Compare by.Equal (Column 0) (Column 1) ∷ []

-- e1.id IN (SELECT e1.id FROM e1)
abbrev pub right_among : List Condition
right_among = In (Column 2) 1 2 ∷ []

-- e1.id = e1.id
abbrev pub equal_right_ids : List Condition
equal_right_ids = Compare by.Equal (Column 2) (Column 2) ∷ []

-- e0.dept NOT IN (SELECT e0.id FROM e1)
abbrev pub not_among_left : List Condition
not_among_left = Not (In (Column 1) 1 0) ∷ []

-- e0.dept = e0.id
abbrev pub dept_equal : List Condition
dept_equal = Compare by.Equal (Column 1) (Column 0) ∷ []

-- ---- the first lines of logs

-- two tables and, in line 2, a selection of e0
abbrev pub selected : List Condition → List Line
selected C = two_tables ++ Founds (Select C 0) ∷ []

-- two tables, in line 2 a selection of e1 and in line 3 one of e0, by a subquery of it
abbrev pub selected_by : List Condition → (ℕ → List Condition) → List Line
selected_by P asked = two_tables ++ Founds (Select P 1) ∷ Founds (Select (asked 2) 0) ∷ []

-- the same where e1 is selected twice, in line 2 by a condition that reads e0
abbrev pub twice_selected : (ℕ → List Condition) → List Line
twice_selected asked = two_tables ++ Founds (Select equal_ids 1) ∷ Founds (Select without_right_dept 2) ∷ Founds (Select (asked 3) 0) ∷ []

-- ---- the verdicts

-- lines by a step of each rule of subqueries, and of semijoins and antijoins; all add an expression to a class
pub record UnnestedRules : Type 0 where
  pub exists_is_semi : Stands (selected (some_row 1)) (Adds 2 (by_rule rule.ExistsIsSemi (2 ∷ []) []) (Semi [] 0 1))
  -- the second conjunct is picked, and the first stays
  pub second_exists_is_semi : Stands (selected (own_dept ++ some_row 1) ++ Founds (Semi [] 0 1) ∷ []) (Adds 2 (by_pick rule.ExistsIsSemi 1 (2 ∷ []) (3 ∷ [])) (Select own_dept 3))
  pub not_exists_is_anti : Stands (selected (no_row 1)) (Adds 2 (by_rule rule.NotExistsIsAnti (2 ∷ []) []) (Anti [] [] 0 1))
  pub in_is_semi : Stands (selected (dept_among 1)) (Adds 2 (by_rule rule.InIsSemi (2 ∷ []) []) (Semi equal_dept 0 1))
  -- a row of e0 without a dept isn't in the answer, unless there is no row of e1
  pub not_in_is_anti : Stands (selected (dept_not_among 1)) (Adds 2 (by_rule rule.NotInIsAnti (2 ∷ []) []) (Anti [] equal_dept 0 1))
  pub antijoin_of_filled : Stands (two_tables ++ Gives 0 0 (NotNull 0) ∷ Gives 1 1 (NotNull 2) ∷ Founds (Anti [] equal_ids 0 1) ∷ [])
      (Adds 4 (by_rule rule.AntijoinOfFilled (4 ∷ []) []) (Anti equal_ids [] 0 1))
  -- e0.dept may be Null: its equality stays null-aware
  pub antijoin_of_some_filled : Stands (two_tables ++ Gives 0 0 (NotNull 0) ∷ Gives 1 1 (NotNull 2) ∷ Founds (Anti [] (equal_ids ++ equal_dept) 0 1) ∷ [])
      (Adds 4 (by_rule rule.AntijoinOfFilled (4 ∷ []) []) (Anti equal_ids equal_dept 0 1))
  -- the pick is the class of the subquery
  pub subquery_of_input : Stands (two_tables ++ Founds (Keep (2 ∷ []) 1) ∷ Founds (Select (dept_among 2) 0) ∷ [])
      (Adds 3 (by_pick rule.SubqueryOfInput 2 (3 ∷ 2 ∷ []) []) (Select (dept_among 1) 0))
  pub subquery_of_distinct : Stands (two_tables ++ Founds (Distinct 1) ∷ Founds (Select (some_row 2) 0) ∷ [])
      (Adds 3 (by_pick rule.SubqueryOfInput 2 (3 ∷ 2 ∷ []) []) (Select (some_row 1) 0))
  -- what the subquery reads of e0's row is read by the join's condition
  pub exists_of_select_is_semi : Stands (selected_by equal_ids some_row) (Adds 3 (by_rule rule.ExistsOfSelectIsSemi (3 ∷ 2 ∷ []) []) (Semi equal_ids 0 1))
  pub not_exists_of_select_is_anti : Stands (selected_by equal_ids no_row) (Adds 3 (by_rule rule.NotExistsOfSelectIsAnti (3 ∷ 2 ∷ []) []) (Anti equal_ids [] 0 1))
  pub in_select_is_semi : Stands (selected_by without_right_dept dept_among) (Adds 3 (by_rule rule.InSelectIsSemi (3 ∷ 2 ∷ []) []) (Semi equal_dept_without 0 1))
  pub not_in_select_is_anti : Stands (selected_by without_right_dept dept_not_among)
      (Adds 3 (by_rule rule.NotInSelectIsAnti (3 ∷ 2 ∷ []) []) (Anti without_right_dept equal_dept 0 1))
  pub semijoin_below_join : Stands (joined_of_three ++ Founds (Semi equal_third_ids 3 2) ∷ Founds (Semi equal_third_ids 0 2) ∷ [])
      (Adds 4 (by_rule rule.SemijoinBelowJoin (4 ∷ 3 ∷ []) (5 ∷ [])) (Join equal_ids 5 1))
  pub antijoin_below_join : Stands (joined_of_three ++ Founds (Anti [] equal_third_ids 3 2) ∷ Founds (Anti [] equal_third_ids 0 2) ∷ [])
      (Adds 4 (by_rule rule.SemijoinBelowJoin (4 ∷ 3 ∷ []) (5 ∷ [])) (Join equal_ids 5 1))
  -- a row of e0 finds one of e1 at most, by its key
  pub semijoin_is_join : Stands (two_tables ++ Gives 1 1 (WeakKey (2 ∷ [])) ∷ Founds (Semi equal_ids 0 1) ∷ Founds (Join equal_ids 0 1) ∷ [])
      (Adds 3 (by_rule rule.SemijoinIsJoin (3 ∷ []) (4 ∷ [])) (Keep (0 ∷ 1 ∷ []) 4))

-- each of these rules that has a condition, where it fails; what it would give is a line that is well formed
pub record UnnestedConditions : Type 0 where
  -- which rows the subquery has depends on the row of e0
  pub exists_is_semi : IsRefused (selected_by equal_ids some_row) (Adds 3 (by_rule rule.ExistsIsSemi (3 ∷ []) []) (Semi [] 0 2)) (reason.FailedCondition rule.ExistsIsSemi)
  pub not_exists_is_anti : IsRefused (selected_by equal_ids no_row) (Adds 3 (by_rule rule.NotExistsIsAnti (3 ∷ []) []) (Anti [] [] 0 2)) (reason.FailedCondition rule.NotExistsIsAnti)
  -- the term is a column of e1: e1.id IN (SELECT e1.id FROM e1)
  pub in_is_semi : IsRefused (selected right_among) (Adds 2 (by_rule rule.InIsSemi (2 ∷ []) []) (Semi equal_right_ids 0 1)) (reason.FailedCondition rule.InIsSemi)
  -- the column is none of e1: e0.dept NOT IN (SELECT e0.id FROM e1)
  pub not_in_is_anti : IsRefused (selected not_among_left) (Adds 2 (by_rule rule.NotInIsAnti (2 ∷ []) []) (Anti [] dept_equal 0 1)) (reason.FailedCondition rule.NotInIsAnti)
  -- the projection drops the column of the IN
  pub subquery_of_input : IsRefused (two_tables ++ Founds (Keep (3 ∷ []) 1) ∷ Founds (Select (dept_among 2) 0) ∷ [])
      (Adds 3 (by_pick rule.SubqueryOfInput 2 (3 ∷ 2 ∷ []) []) (Select (dept_among 1) 0)) (reason.FailedCondition rule.SubqueryOfInput)
  -- the conditions of the subquery's selection have a subquery, and no join's may
  pub exists_of_select_is_semi : IsRefused (selected_by (some_row 0) some_row)
      (Adds 3 (by_rule rule.ExistsOfSelectIsSemi (3 ∷ 2 ∷ []) []) (Semi [] 0 1)) (reason.FailedCondition rule.ExistsOfSelectIsSemi)
  -- the input of the subquery's selection reads the row of e0
  pub not_exists_of_select_is_anti : IsRefused (twice_selected no_row)
      (Adds 4 (by_rule rule.NotExistsOfSelectIsAnti (4 ∷ 3 ∷ []) []) (Anti without_right_dept [] 0 2)) (reason.FailedCondition rule.NotExistsOfSelectIsAnti)
  pub in_select_is_semi : IsRefused (twice_selected dept_among)
      (Adds 4 (by_rule rule.InSelectIsSemi (4 ∷ 3 ∷ []) []) (Semi equal_dept_without 0 2)) (reason.FailedCondition rule.InSelectIsSemi)
  pub not_in_select_is_anti : IsRefused (twice_selected dept_not_among)
      (Adds 4 (by_rule rule.NotInSelectIsAnti (4 ∷ 3 ∷ []) []) (Anti without_right_dept equal_dept 0 2)) (reason.FailedCondition rule.NotInSelectIsAnti)
  -- the sides would share columns: EXISTS (SELECT * FROM e0), of the same rows
  pub exists_of_shared : IsRefused (selected (some_row 0)) (Adds 2 (by_rule rule.ExistsIsSemi (2 ∷ []) []) (Semi [] 0 1)) (reason.FailedCondition rule.ExistsIsSemi)
  -- the join's condition reads e2
  pub join_above_semijoin : IsRefused (two_tables ++ Founds (Get 2) ∷ Founds (Join equal_third_ids 0 1) ∷ Founds (Semi equal_third_ids 3 2) ∷ [])
      (Adds 4 (by_rule rule.SemijoinBelowJoin (4 ∷ 3 ∷ []) []) (Semi equal_third_ids 3 2)) (reason.FailedCondition rule.SemijoinBelowJoin)
  -- the semijoin's condition reads e1
  pub semijoin_below_join : IsRefused (joined_of_three ++ Founds (Semi falling_ids 3 2) ∷ [])
      (Adds 4 (by_rule rule.SemijoinBelowJoin (4 ∷ 3 ∷ []) []) (Semi falling_ids 3 2)) (reason.FailedCondition rule.SemijoinBelowJoin)
  -- no key of e1 is known
  pub semijoin_is_join : IsRefused (two_tables ++ Founds (Semi equal_ids 0 1) ∷ Founds (Join equal_ids 0 1) ∷ [])
      (Adds 2 (by_rule rule.SemijoinIsJoin (2 ∷ []) (3 ∷ [])) (Keep (0 ∷ 1 ∷ []) 3)) (reason.FailedCondition rule.SemijoinIsJoin)

-- steps where what is picked is of another form than the rule takes, or a line below is
pub record UnnestedForms : Type 0 where
  -- NOT stands above the pick, or doesn't
  pub exists_is_semi : IsRefused (selected (no_row 1)) (Adds 2 (by_rule rule.ExistsIsSemi (2 ∷ []) []) (Semi [] 0 1)) reason.OtherForm
  pub not_exists_is_anti : IsRefused (selected (some_row 1)) (Adds 2 (by_rule rule.NotExistsIsAnti (2 ∷ []) []) (Anti [] [] 0 1)) reason.OtherForm
  pub in_is_semi : IsRefused (selected (dept_not_among 1)) (Adds 2 (by_rule rule.InIsSemi (2 ∷ []) []) (Semi equal_dept 0 1)) reason.OtherForm
  pub not_in_is_anti : IsRefused (selected (dept_among 1)) (Adds 2 (by_rule rule.NotInIsAnti (2 ∷ []) []) (Anti [] equal_dept 0 1)) reason.OtherForm
  -- there is no second conjunct
  pub missing_conjunct : IsRefused (selected (some_row 1)) (Adds 2 (by_pick rule.ExistsIsSemi 1 (2 ∷ []) []) (Semi [] 0 1)) reason.OtherForm
  -- e0.dept may be Null
  pub antijoin_of_filled : IsRefused (two_tables ++ Gives 0 0 (NotNull 0) ∷ Gives 1 1 (NotNull 2) ∷ Founds (Anti [] equal_dept 0 1) ∷ [])
      (Adds 4 (by_rule rule.AntijoinOfFilled (4 ∷ []) []) (Anti equal_dept [] 0 1)) reason.OtherForm
  -- the subquery asks for some of its input's rows only
  pub subquery_of_input : IsRefused (selected_by without_right_dept some_row)
      (Adds 3 (by_pick rule.SubqueryOfInput 2 (3 ∷ 2 ∷ []) []) (Select (some_row 1) 0)) reason.OtherForm
  -- no conjunct names the class
  pub missing_class : IsRefused (two_tables ++ Founds (Distinct 1) ∷ Founds (Select without_dept 0) ∷ [])
      (Adds 3 (by_pick rule.SubqueryOfInput 2 (3 ∷ 2 ∷ []) []) (Select without_dept 0)) reason.OtherForm
  -- DISTINCT hides the selection
  pub exists_of_select_is_semi : IsRefused (two_tables ++ Founds (Select equal_ids 1) ∷ Founds (Distinct 2) ∷ Founds (Select (some_row 3) 0) ∷ [])
      (Adds 4 (by_rule rule.ExistsOfSelectIsSemi (4 ∷ 3 ∷ []) []) (Semi equal_ids 0 1)) reason.OtherForm
