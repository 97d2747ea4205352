-- Costs of plans, in hundredths of a page that is fetched. A row that is fetched from a table costs 10, and a row or a step in memory 1.
-- That plans are compared by the pages that they fetch and the rows that they go through: Selinger et al., Access path selection in a
-- relational database management system, 1979. The numbers are this project's own.
use Rattle.std.specs.Prelude.{ℕ, ◌+◌, ◌*◌, ◌&&◌, ◌==◌, Bool, true, false, if◌then◌else◌, List, [], ◌∷◌, filter, flat_map, map, drop, slice_get, Option, Some, None}
use Rattle.std.specs.List.{list_any, list_all, sum_by}
use Rattle.values.specs.declared.truth.Comparison.{Comparison}
use Rattle.values.specs.declared.truth.Comparison.TheVariants as by
use Rattle.query.specs.declared.query.TableInstance.{TableInstance}
use Rattle.algebra.specs.declared.condition.Term.{Term}
use Rattle.algebra.specs.declared.condition.Condition.{Condition, out-Condition}
use Rattle.algebra.specs.declared.condition.Condition.TheOpen.{Condition-F}
use Rattle.algebra.specs.Columns.{ColumnSet}
use Rattle.derivation.specs.Logs.{Log, class_at}
use Rattle.physical.specs.declared.plan.JoinMethod.TheVariants as join
use Rattle.physical.specs.declared.plan.GroupMethod.{GroupMethod}
use Rattle.physical.specs.declared.plan.GroupMethod.TheVariants as group
use Rattle.physical.specs.declared.plan.JoinMethod.{JoinMethod}
use Rattle.physical.specs.declared.plan.Operator.{Operator}
use Rattle.physical.specs.declared.plan.Operator.TheVariants.{Scan, IndexScan, Filter, FilterSubqueries, Projection, JoinRows, IndexJoin, GroupRows, DistinctRows}
use Rattle.physical.specs.declared.plan.Node.{Node}
use Rattle.physical.specs.declared.plan.Node.TheVariants.{Implements, Sort}
use Rattle.physical.specs.declared.plan.Plan.{Plan, roll-Plan, fold-Plan}
use Rattle.physical.specs.declared.plan.Plan.TheOpen.{Plan-F}
use Rattle.physical.specs.Indexes.{is_column, is_outside}
use Rattle.statistics.specs.declared.counts.Statistics.{Statistics}
use Rattle.costs.specs.declared.nodes.Estimate.{Estimate}
use Rattle.costs.specs.declared.nodes.Inputs.{Inputs}
use Rattle.costs.specs.Numbers.{cut, per_million, binary_digits}
use Rattle.costs.specs.Tables.{rows_of, pages_of, keys_of, index_pages_of, owns, index_places, is_unique}
use Rattle.costs.specs.Selectivity.{list_selectivity, share_of_key}
use Rattle.costs.specs.Cardinalities.{class_rows}

-- ---- conjuncts by which an index is read

-- one of two terms is the column, and the other none of the columns
abbrev pub faces : ColumnSet → ℕ → Term → Term → Bool
faces own c a b = if is_column c a then is_outside own b else is_column c b && is_outside own a

-- by what a condition compares the column with a term that is none of the columns
abbrev pub comparison_layer : ColumnSet → ℕ → Condition-F Condition → Option Comparison
comparison_layer own c (Condition-F.Compare op a b) = if faces own c a b then Some op else None
comparison_layer own c (Condition-F.IsNull a) = None
comparison_layer own c (Condition-F.Not d) = None
comparison_layer own c (Condition-F.And a b more) = None
comparison_layer own c (Condition-F.Or a b more) = None
comparison_layer own c (Condition-F.Exists g) = None
comparison_layer own c (Condition-F.In a g k) = None

abbrev pub comparison_of : ColumnSet → ℕ → Condition → Option Comparison
comparison_of own c d = comparison_layer own c (out-Condition d)

abbrev pub is_equality : Option Comparison → Bool
is_equality None = false
is_equality (Some by.Equal) = true
is_equality (Some by.NotEqual) = false
is_equality (Some by.Less) = false
is_equality (Some by.LessOrEqual) = false
is_equality (Some by.Greater) = false
is_equality (Some by.GreaterOrEqual) = false

-- what the index finds is one run of its keys
abbrev pub is_run : Option Comparison → Bool
is_run None = false
is_run (Some by.Equal) = true
is_run (Some by.NotEqual) = false
is_run (Some by.Less) = true
is_run (Some by.LessOrEqual) = true
is_run (Some by.Greater) = true
is_run (Some by.GreaterOrEqual) = true

-- the column at a place of the table instance
abbrev pub comparison_at : TableInstance → ℕ → Condition → Option Comparison
comparison_at t place d = comparison_of (owns t) (t.first_column + place) d

-- some condition equates the place; and so it is with each of some places
abbrev pub is_equated : TableInstance → List Condition → ℕ → Bool
is_equated t C place = list_any (λ d. is_equality (comparison_at t place d)) C

abbrev pub are_equated : TableInstance → List Condition → List ℕ → Bool
are_equated t C places = list_all (is_equated t C) places

-- the conditions that bound the first of the places
abbrev pub bounds : TableInstance → List Condition → List ℕ → List Condition
bounds t C [] = []
bounds t C (p ∷ places) = filter (λ d. is_run (comparison_at t p d)) C

-- ---- operators

-- one row by a unique index: a page of the index, a page of the table, and the row
abbrev pub one_row : ℕ
one_row = 210

-- the pages of a share of an index and of as many rows of its table, each on a page of its own
abbrev pub pages_by_index : Statistics → TableInstance → ℕ → ℕ → ℕ
pages_by_index S t i share = per_million (index_pages_of S t i + rows_of S t) share

abbrev pub of_instance : (TableInstance → ℕ) → Option TableInstance → ℕ
of_instance cost None = 0
of_instance cost (Some t) = cost t

abbrev pub scan_cost : Statistics → TableInstance → ℕ
scan_cost S t = 100 * pages_of S t + 10 * rows_of S t

-- of an index scan that gives so many rows
abbrev pub index_scan_cost : Statistics → List TableInstance → ℕ → List Condition → ℕ → TableInstance → ℕ
index_scan_cost S instances i C rows t =
    let places = index_places t i in
    if is_unique t places && are_equated t C places then one_row else 100 * pages_by_index S t i (list_selectivity S instances (bounds t C places)) + 10 * rows

-- of finding the matches of one row by an index
abbrev pub probe_cost : Statistics → ℕ → TableInstance → ℕ
probe_cost S i t =
    let share = share_of_key (Some (keys_of S t i)) in
    if is_unique t (index_places t i) then one_row else 100 * pages_by_index S t i share + 10 * per_million (rows_of S t) share

abbrev pub join_cost : JoinMethod → Inputs → ℕ
join_cost join.NestedLoop x = x.first.cost + x.first.rows * x.second.cost
join_cost join.Hash x = x.first.cost + x.second.cost + x.first.rows + 2 * x.second.rows
join_cost (join.Merge a b) x = x.first.cost + x.second.cost + x.first.rows + x.second.rows

-- of a group or a distinct
abbrev pub group_cost : GroupMethod → Inputs → ℕ
group_cost group.Hash x = x.first.cost + 2 * x.first.rows
group_cost group.Sorted x = x.first.cost + x.first.rows

-- of an operator that gives so many rows, over inputs
abbrev pub operator_cost : Statistics → List TableInstance → Operator → ℕ → Inputs → ℕ
operator_cost S instances (Scan o) rows x = of_instance (scan_cost S) (slice_get instances o)
operator_cost S instances (IndexScan a C) rows x = of_instance (index_scan_cost S instances a.index C rows) (slice_get instances a.instance)
operator_cost S instances (Filter C) rows x = x.first.cost + x.first.rows
operator_cost S instances (FilterSubqueries C) rows x = x.first.cost + x.first.rows * (1 + x.later)
operator_cost S instances (Projection K) rows x = x.first.cost + 1
operator_cost S instances (JoinRows method j) rows x = join_cost method x
operator_cost S instances (IndexJoin a j) rows x = x.first.cost + x.first.rows * of_instance (probe_cost S a.index) (slice_get instances a.instance)
operator_cost S instances (GroupRows method K G) rows x = group_cost method x
operator_cost S instances (DistinctRows method) rows x = group_cost method x

abbrev pub node_cost : Statistics → List TableInstance → Node → ℕ → Inputs → ℕ
node_cost S instances (Implements line operator) rows x = cut (operator_cost S instances operator rows x)
node_cost S instances (Sort keys) rows x = cut (x.first.cost + x.first.rows * binary_digits x.first.rows)

-- ---- plans, n being the rows of the classes

-- the estimates of a node's inputs; an input that is missing counts 0
abbrev pub nothing : Estimate
nothing = record { rows = 0; cost = 0 }

abbrev pub or_nothing : Option Estimate → Estimate
or_nothing None = nothing
or_nothing (Some x) = x

abbrev pub inputs_of : List Estimate → Inputs
inputs_of inputs = record {
  first = or_nothing (slice_get inputs 0);
  second = or_nothing (slice_get inputs 1);
  later = sum_by (λ x. x.cost) (drop 1 inputs);
}

-- as code keeps them: the sum is cut
abbrev pub with_cut_costs : Inputs → Inputs
with_cut_costs x = record { first = x.first; second = x.second; later = cut x.later }

-- with one more, behind so many
abbrev pub with_input : Inputs → ℕ → Estimate → Inputs
with_input x place e =
    if place == 0 then record { first = e; second = x.second; later = x.later }
    else if place == 1 then record { first = x.first; second = e; later = cut (x.later + e.cost) }
    else record { first = x.first; second = x.second; later = cut (x.later + e.cost) }

-- a sort gives the rows of its input
abbrev pub node_rows : (ℕ → ℕ) → Log → Node → Inputs → ℕ
node_rows n E (Implements line operator) x = n (class_at E line)
node_rows n E (Sort keys) x = x.first.rows

abbrev pub node_estimate : Statistics → List TableInstance → (ℕ → ℕ) → Log → Node → Inputs → Estimate
node_estimate S instances n E node x =
    let rows = node_rows n E node x in
    record { rows = rows; cost = node_cost S instances node rows x }

abbrev pub estimate_layer : Statistics → List TableInstance → (ℕ → ℕ) → Log → Plan-F Estimate → Estimate
estimate_layer S instances n E p = node_estimate S instances n E p.node (inputs_of p.inputs)

unfoldable pub plan_estimate : Statistics → List TableInstance → (ℕ → ℕ) → Log → Plan → Estimate
plan_estimate S instances n E = fold-Plan Estimate (estimate_layer S instances n E)

-- what a plan over a log costs
abbrev pub plan_cost : Statistics → List TableInstance → Log → Plan → ℕ
plan_cost S instances E p = (plan_estimate S instances (class_rows S instances E) E p).cost

-- ---- all nodes of a plan

-- a plan, and those that stand below its root
pub record Subplans : Type 0 where
  pub own : Plan
  pub below : List Plan

abbrev pub all_of : Subplans → List Plan
all_of s = s.own ∷ s.below

abbrev pub subplans_layer : Plan-F Subplans → Subplans
subplans_layer p = record { own = roll-Plan (record { node = p.node; inputs = map (λ s. s.own) p.inputs }); below = flat_map all_of p.inputs }

unfoldable pub subplans_of : Plan → Subplans
subplans_of = fold-Plan Subplans subplans_layer

-- the plan of each node of a plan, each before its inputs: the plan itself is the first
abbrev pub subplans : Plan → List Plan
subplans p = all_of (subplans_of p)

-- the estimate of each of them
abbrev pub estimates_by : Statistics → List TableInstance → (ℕ → ℕ) → Log → Plan → List Estimate
estimates_by S instances n E p = map (plan_estimate S instances n E) (subplans p)

abbrev pub plan_estimates : Statistics → List TableInstance → Log → Plan → List Estimate
plan_estimates S instances E p = estimates_by S instances (class_rows S instances E) E p
