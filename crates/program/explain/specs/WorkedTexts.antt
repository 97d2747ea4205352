-- Texts that are spelled out: of columns, of each form of condition, of a plan, of a node of each operator, of a picture, and of a plan that was measured.
use Rattle.std.specs.Prelude.{◌≡◌, ℕ, pos, negsuc, true, false, List, [], ◌∷◌, Option, Some, None, codes}
use Rattle.values.specs.declared.truth.Comparison.TheVariants as by
use Rattle.values.specs.declared.value.Value.{Value}
use Rattle.values.specs.declared.value.Value.TheVariants as value
use Rattle.query.specs.declared.query.Aggregate.TheVariants as aggregate
use Rattle.query.specs.declared.query.TableInstance.{TableInstance}
use Rattle.query.specs.Examples.{dept_table, emp_table}
use Rattle.algebra.specs.declared.condition.Condition.{Condition}
use Rattle.algebra.specs.declared.condition.Condition.TheVariants.{Compare, IsNull, Not, And, Or, Exists, In}
use Rattle.algebra.specs.declared.condition.Term.TheVariants.{Column, Literal}
use Rattle.algebra.specs.declared.expr.Aggregation.{Aggregation}
use Rattle.physical.specs.declared.plan.GroupMethod.TheVariants as group
use Rattle.physical.specs.declared.plan.IndexAccess.{IndexAccess}
use Rattle.physical.specs.declared.plan.JoinMethod.TheVariants as method
use Rattle.physical.specs.declared.plan.Matching.TheVariants as matching
use Rattle.physical.specs.declared.plan.Operator.{Operator}
use Rattle.physical.specs.declared.plan.Operator.TheVariants.{Scan, IndexScan, Filter, FilterSubqueries, Projection, JoinRows, IndexJoin, GroupRows, DistinctRows}
use Rattle.physical.specs.declared.plan.Node.TheVariants.{Implements, Sort}
use Rattle.physical.specs.declared.plan.Plan.{Plan, roll-Plan}
use Rattle.costs.specs.declared.nodes.Estimate.{Estimate}
use Rattle.measures.specs.declared.measured.Measure.{Measure}
use Rattle.explain.specs.Names.{Text, Naming, column_text}
use Rattle.explain.specs.ConditionTexts.{condition_text}
use Rattle.explain.specs.PlanTexts.{json_text, node_text, plan_text}
use Rattle.explain.specs.DotTexts.{dot_text}

-- ---- a query

-- dept d, with the columns 0 id, 1 name, 2 boss
abbrev pub dept : TableInstance
dept = record { table = 0; entry = dept_table; name = codes "d"; first_column = 0 }

-- emp e, with the columns 3 id, 4 dept, 5 pay, 6 badge, and an index by dept and pay
abbrev pub emp : TableInstance
emp = record { table = 1; entry = record emp_table { indexes = (1 ∷ 2 ∷ []) ∷ [] }; name = codes "e"; first_column = 3 }

abbrev pub counted : List Aggregation
counted = (record { column = 7; aggregate = aggregate.CountRows }) ∷ (record { column = 8; aggregate = aggregate.Sum 5 }) ∷ []

abbrev pub names : Naming
names = record { tables = dept ∷ emp ∷ []; aggregates = counted }

-- ---- columns

abbrev pub ColumnsAreSpelled : Type 0
ColumnsAreSpelled =
    (column_text names 2 ≡ codes "d.boss")
    × (column_text names 5 ≡ codes "e.pay")
    × (column_text names 7 ≡ codes "COUNT(*)")
    × (column_text names 8 ≡ codes "SUM(e.pay)")
    × (column_text names 9 ≡ codes "c9")

-- ---- conditions

abbrev pub same_department : Condition
same_department = Compare by.Equal (Column 4) (Column 0)

abbrev pub department_same : Condition
department_same = Compare by.Equal (Column 0) (Column 4)

abbrev pub is_paid : Condition
is_paid = Compare by.Greater (Column 5) (Literal (value.Int (pos 0)))

abbrev pub has_no_boss : Condition
has_no_boss = IsNull (Column 2)

abbrev pub is_named : Value → Condition
is_named v = Compare by.NotEqual (Column 1) (Literal v)

abbrev pub ConditionsAreSpelled : Type 0
ConditionsAreSpelled =
    (condition_text names same_department ≡ codes "e.dept = d.id")
    × (condition_text names is_paid ≡ codes "e.pay > 0")
    × (condition_text names (Compare by.LessOrEqual (Column 7) (Literal (value.Int (negsuc 4)))) ≡ codes "COUNT(*) <= -5")
    × (condition_text names (is_named (value.Text (codes "it's"))) ≡ codes "d.name <> 'it''s'")
    × (condition_text names (is_named value.Null) ≡ codes "d.name <> NULL")
    × (condition_text names has_no_boss ≡ codes "d.boss IS NULL")
    × (condition_text names (Not has_no_boss) ≡ codes "NOT (d.boss IS NULL)")
    × (condition_text names (Not (And is_paid has_no_boss [])) ≡ codes "NOT ((e.pay > 0 AND d.boss IS NULL))")
    × (condition_text names (Or is_paid has_no_boss (same_department ∷ [])) ≡ codes "(e.pay > 0 OR d.boss IS NULL OR e.dept = d.id)")
    × (condition_text names (Exists 3) ≡ codes "EXISTS #3")
    × (condition_text names (In (Column 4) 12 0) ≡ codes "e.dept IN #12")

-- ---- a plan

abbrev pub a_plan : Operator → List Plan → Plan
a_plan operator inputs = roll-Plan (record { node = Implements 0 operator; inputs = inputs })

abbrev pub an_estimate : ℕ → ℕ → Estimate
an_estimate rows cost = record { rows = rows; cost = cost }

-- each department with its employees that are paid
abbrev pub paid_employees : Plan
paid_employees =
    a_plan (Projection (0 ∷ 3 ∷ []))
    (a_plan (Filter (is_paid ∷ []))
    (a_plan (JoinRows method.Hash (matching.Left (same_department ∷ []))) (a_plan (Scan 0) [] ∷ a_plan (Scan 1) [] ∷ []) ∷ [])
    ∷ [])

abbrev pub estimated : List Estimate
estimated = an_estimate 2 285 ∷ an_estimate 2 284 ∷ an_estimate 3 281 ∷ an_estimate 3 130 ∷ an_estimate 4 140 ∷ []

abbrev pub paid_employees_text : Text
paid_employees_text =
    codes "cut d.id,e.id rows=2 cost=285\n  filter e.pay > 0 rows=2 cost=284\n    hash left e.dept = d.id rows=3 cost=281\n      scan dept d rows=3 cost=130\n      scan emp e rows=4 cost=140\n"

abbrev pub PlanIsSpelled : Type 0
PlanIsSpelled = plan_text names estimated [] paid_employees ≡ paid_employees_text

-- ---- nodes

-- the index of emp
abbrev pub by_department : IndexAccess
by_department = record { line = 3; instance = 1; index = 0 }

-- what a node of an operator is, of which 2 rows and a cost of 281 are reckoned
abbrev pub reads : Operator → Text
reads operator = node_text names (Implements 0 operator) (an_estimate 2 281)

abbrev pub NodesAreSpelled : Type 0
NodesAreSpelled =
    (reads (Scan 1) ≡ codes "scan emp e rows=2 cost=281")
    × (reads (Scan 5) ≡ codes "scan t5 t5 rows=2 cost=281")
    × (reads (IndexScan by_department []) ≡ codes "iscan emp e (e.dept,e.pay) true rows=2 cost=281")
    × (reads (Filter (is_paid ∷ has_no_boss ∷ [])) ≡ codes "filter e.pay > 0 AND d.boss IS NULL rows=2 cost=281")
    × (reads (FilterSubqueries (Exists 3 ∷ [])) ≡ codes "filtersub EXISTS #3 rows=2 cost=281")
    × (reads (Projection (0 ∷ 8 ∷ [])) ≡ codes "cut d.id,SUM(e.pay) rows=2 cost=281")
    × (reads (JoinRows method.NestedLoop (matching.Inner [])) ≡ codes "loop inner true rows=2 cost=281")
    × (reads (JoinRows method.Hash (matching.Anti (same_department ∷ []) [])) ≡ codes "hash anti sure e.dept = d.id maybe true rows=2 cost=281")
    × (reads (JoinRows method.Hash (matching.Anti [] (department_same ∷ []))) ≡ codes "hash anti sure true maybe d.id = e.dept rows=2 cost=281")
    × (reads (IndexJoin by_department (matching.Semi (same_department ∷ []))) ≡ codes "iloop semi emp e (e.dept,e.pay) e.dept = d.id rows=2 cost=281")
    × (reads (JoinRows (method.Merge 4 0) (matching.Inner (same_department ∷ []))) ≡ codes "merge e.dept = d.id e.dept = d.id rows=2 cost=281")
    × (reads (GroupRows group.Hash (1 ∷ []) counted) ≡ codes "hgroup d.name COUNT(*),SUM(e.pay) rows=2 cost=281")
    × (reads (GroupRows group.Sorted [] []) ≡ codes "sgroup - - rows=2 cost=281")
    × (reads (DistinctRows group.Hash) ≡ codes "hdistinct rows=2 cost=281")
    × (reads (DistinctRows group.Sorted) ≡ codes "sdistinct rows=2 cost=281")
    × (node_text names (Sort ((record { column = 1; descending = false }) ∷ (record { column = 7; descending = true }) ∷ [])) (an_estimate 2 281) ≡ codes "sort d.name ASC,COUNT(*) DESC rows=2 cost=281")

-- ---- a picture

-- the departments with another name than a backslash or a quote; nothing is reckoned of the scan
abbrev pub other_departments : Plan
other_departments = a_plan (Filter (is_named (value.Text (codes "\\ or \"")) ∷ [])) (a_plan (Scan 0) [] ∷ [])

abbrev pub PictureIsSpelled : Type 0
PictureIsSpelled =
    dot_text names (an_estimate 2 135 ∷ []) other_departments
    ≡ codes "digraph plan {\n  node [shape=box fontname=\"sans-serif\"];\n  n0 [label=\"filter d.name <> '\\\\ or \\\"' rows=2 cost=135\"];\n  n0 -> n1;\n  n1 [label=\"scan dept d rows=0 cost=0\"];\n}\n"

-- ---- what was measured

-- of the filter 2 rows in 7 microseconds, and of the scan nothing
abbrev pub measured : List (Option Measure)
measured = Some (record { rows = 2; microseconds = 7 }) ∷ None ∷ []

abbrev pub MeasuresAreSpelled : Type 0
MeasuresAreSpelled =
    (plan_text names (an_estimate 2 135 ∷ []) measured other_departments ≡ codes "filter d.name <> '\\ or \"' rows=2 cost=135 actual=2 time=7us\n  scan dept d rows=0 cost=0\n")
    × (json_text names (an_estimate 2 135 ∷ []) measured other_departments
    ≡ codes "[\n{\"depth\":0,\"node\":\"filter d.name <> '\\\\ or \\\"'\",\"estimated_rows\":2,\"cost\":135,\"rows\":2,\"microseconds\":7},\n{\"depth\":1,\"node\":\"scan dept d\",\"estimated_rows\":0,\"cost\":0,\"rows\":null,\"microseconds\":null}\n]\n")
