-- What is measured of the nodes of a plan, where no column has a value.
use Rattle.std.specs.Prelude.{◌≡◌, ◌<◌, ◌^◌, Bool, true, false, ◌||◌, List, [], ◌∷◌, ◌++◌, map, flat_map, length, Option, Some, None}
use Rattle.query.specs.declared.query.TableInstance.{TableInstance}
use Rattle.query.specs.Rows.{Tables}
use Rattle.algebra.specs.Bags.{nulls}
use Rattle.physical.specs.declared.plan.Operator.{Operator}
use Rattle.physical.specs.declared.plan.Operator.TheVariants.{Scan, IndexScan, Filter, FilterSubqueries, Projection, JoinRows, IndexJoin, GroupRows, DistinctRows}
use Rattle.physical.specs.declared.plan.Node.{Node}
use Rattle.physical.specs.declared.plan.Node.TheVariants.{Implements, Sort}
use Rattle.physical.specs.declared.plan.Plan.{Plan, roll-Plan, fold-Plan}
use Rattle.physical.specs.declared.plan.Plan.TheOpen.{Plan-F}
use Rattle.physical.specs.Outputs.{output_rows}
use Rattle.measures.specs.declared.measured.Measure.{Measure}

-- ---- the nodes that are run

-- whether the inputs behind the first are run at each row of the first
abbrev pub operator_has_subqueries : Operator → Bool
operator_has_subqueries (Scan o) = false
operator_has_subqueries (IndexScan a C) = false
operator_has_subqueries (Filter C) = false
operator_has_subqueries (FilterSubqueries C) = true
operator_has_subqueries (Projection K) = false
operator_has_subqueries (JoinRows m j) = false
operator_has_subqueries (IndexJoin a j) = false
operator_has_subqueries (GroupRows m K G) = false
operator_has_subqueries (DistinctRows m) = false

abbrev pub has_subqueries : Node → Bool
has_subqueries (Implements line operator) = operator_has_subqueries operator
has_subqueries (Sort keys) = false

-- a plan that is run once, and none in the place of one that is run again and again
abbrev pub plan_if : Bool → Plan → Option Plan
plan_if true p = None
plan_if false p = Some p

-- a plan, and those that stand below its root, where its root is run once or again and again
pub record Run : Type 0 where
  pub own : Plan
  pub below : Bool → List (Option Plan)

abbrev pub all_run : Bool → Run → List (Option Plan)
all_run repeated r = plan_if repeated r.own ∷ r.below repeated

-- the first input of a node is run as often as the node
abbrev pub inputs_run : Bool → Bool → List Run → List (Option Plan)
inputs_run first later [] = []
inputs_run first later (r ∷ inputs) = all_run first r ++ flat_map (all_run later) inputs

abbrev pub run_layer : Plan-F Run → Run
run_layer p = record { own = roll-Plan (record { node = p.node; inputs = map (λ r. r.own) p.inputs }); below = λ repeated. inputs_run repeated (repeated || has_subqueries p.node) p.inputs }

unfoldable pub run_of : Plan → Run
run_of = fold-Plan Run run_layer

-- the plans of a plan's nodes, each before its inputs
abbrev pub plans_run : Bool → Plan → List (Option Plan)
plans_run repeated p = all_run repeated (run_of p)

-- ---- what is measured of them

-- its rows are counted; they are not only where they are more than 2^62
abbrev pub IsMeasured : List TableInstance → Tables → Option Plan → Option Measure → Type 0
IsMeasured instances D None m = m ≡ None
IsMeasured instances D (Some p) None = 2 ^ 62 < length (output_rows instances D p nulls)
IsMeasured instances D (Some p) (Some m) = m.rows ≡ length (output_rows instances D p nulls)

-- one measure for each
abbrev pub AreMeasured : List TableInstance → Tables → List (Option Plan) → List (Option Measure) → Type 0
AreMeasured instances D [] [] = Unit {0}
AreMeasured instances D [] (m ∷ measures) = ⊥
AreMeasured instances D (p ∷ plans) [] = ⊥
AreMeasured instances D (p ∷ plans) (m ∷ measures) = IsMeasured instances D p m × AreMeasured instances D plans measures
