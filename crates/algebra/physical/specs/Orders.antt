-- The order that a plan delivers (G. Graefe, The Cascades framework for query optimization, 1995: physical properties), and
-- that what it produces stands in it.
use Rattle.std.specs.Prelude.{◌≡◌, ℕ, Bool, true, false, ◌&&◌, if◌then◌else◌, List, [], ◌∷◌, map}
use Rattle.std.specs.List.{list_all}
use Rattle.std.specs.Ordering.{is_gt}
use Rattle.query.specs.declared.query.TableInstance.{TableInstance}
use Rattle.query.specs.Rows.{Tables}
use Rattle.algebra.specs.Columns.{ColumnSet, has, are_disjoint}
use Rattle.algebra.specs.Bags.{Env}
use Rattle.algebra.specs.Expressions.{aggregate_columns}
use Rattle.physical.specs.declared.plan.OrderKey.{OrderKey}
use Rattle.physical.specs.declared.plan.Operator.{Operator}
use Rattle.physical.specs.declared.plan.Matching.{Matching}
use Rattle.physical.specs.declared.plan.Matching.TheVariants.{Inner, Left}
use Rattle.physical.specs.declared.plan.GroupMethod.TheVariants.{Hash, Sorted}
use Rattle.physical.specs.declared.plan.Operator.TheVariants.{Scan, IndexScan, Filter, FilterSubqueries, Projection, JoinRows, IndexJoin, GroupRows, DistinctRows}
use Rattle.physical.specs.declared.plan.Node.{Node}
use Rattle.physical.specs.declared.plan.Node.TheVariants.{Implements, Sort}
use Rattle.physical.specs.declared.plan.Plan.{Plan, fold-Plan}
use Rattle.physical.specs.declared.plan.Plan.TheOpen.{Plan-F}
use Rattle.physical.specs.Sorts.{keys_order}
use Rattle.physical.specs.Indexes.{accessed_columns, index_order}
use Rattle.physical.specs.Outputs.{node_columns, first_columns, second_columns, output_rows}

-- ---- rows in order

-- no row stands right before one that goes before it
abbrev pub IsOrdered : List OrderKey → List Env → Type 0
IsOrdered keys [] = Unit {0}
IsOrdered keys (a ∷ []) = Unit {0}
IsOrdered keys (a ∷ b ∷ rows) = (is_gt (keys_order keys a b) ≡ false) × IsOrdered keys (b ∷ rows)

-- ---- what is delivered

-- the keys before the first one whose column isn't in the set
abbrev pub front : ColumnSet → List OrderKey → List OrderKey
front K [] = []
front K (k ∷ keys) = if K k.column then k ∷ front K keys else []

abbrev pub first_order : List (List OrderKey) → List OrderKey
first_order [] = []
first_order (order ∷ inputs) = order

-- the order that an operator delivers, given those that its inputs do
abbrev pub operator_order : List TableInstance → Operator → List (List OrderKey) → List OrderKey
operator_order instances (Scan o) inputs = []
operator_order instances (IndexScan a C) inputs = index_order instances a
operator_order instances (Filter C) inputs = first_order inputs
operator_order instances (FilterSubqueries C) inputs = first_order inputs
operator_order instances (Projection K) inputs = front (has K) (first_order inputs)
operator_order instances (JoinRows method j) inputs = first_order inputs
operator_order instances (IndexJoin a j) inputs = first_order inputs
operator_order instances (GroupRows Hash K G) inputs = []
operator_order instances (GroupRows Sorted K G) inputs = front (has K) (first_order inputs)
operator_order instances (DistinctRows method) inputs = first_order inputs

abbrev pub node_order : List TableInstance → Node → List (List OrderKey) → List OrderKey
node_order instances (Implements line operator) inputs = operator_order instances operator inputs
node_order instances (Sort keys) inputs = keys

abbrev pub order_layer : List TableInstance → Plan-F (List OrderKey) → List OrderKey
order_layer instances p = node_order instances p.node p.inputs

unfoldable pub plan_order : List TableInstance → Plan → List OrderKey
plan_order instances = fold-Plan (List OrderKey) (order_layer instances)

-- ---- whether rows stand in it

-- the columns of the keys are among these
abbrev pub are_columns : List ℕ → List OrderKey → Bool
are_columns columns keys = list_all (λ k. has columns k.column) keys

-- a join of sides with these columns hides none of the left side
abbrev pub join_stands : Matching → List ℕ → List ℕ → Bool
join_stands (Inner C) left right = are_disjoint left right
join_stands (Left C) left right = are_disjoint left right
join_stands j left right = true

-- no join hides a column of its left side, no aggregate a key, and a sort or an index is by columns of what it sorts
abbrev pub operator_stands : List TableInstance → Operator → List (List ℕ) → Bool
operator_stands instances (IndexScan a C) inputs = are_columns (accessed_columns instances a) (index_order instances a)
operator_stands instances (JoinRows method j) inputs = join_stands j (first_columns inputs) (second_columns inputs)
operator_stands instances (IndexJoin a j) inputs = join_stands j (first_columns inputs) (accessed_columns instances a)
operator_stands instances (GroupRows method K G) inputs = are_disjoint K (aggregate_columns G)
operator_stands instances operator inputs = true

abbrev pub node_stands : List TableInstance → Node → List (List ℕ) → Bool
node_stands instances (Implements line operator) inputs = operator_stands instances operator inputs
node_stands instances (Sort keys) inputs = are_columns (first_columns inputs) keys

-- the columns of a plan's rows, and whether this is so of all its nodes
pub record Shape : Type 0 where
  pub columns : List ℕ
  pub stands : Bool

abbrev pub shape_layer : List TableInstance → Plan-F Shape → Shape
shape_layer instances p =
    let columns = map (λ x. x.columns) p.inputs in
    record { columns = node_columns instances p.node columns; stands = node_stands instances p.node columns && list_all (λ x. x.stands) p.inputs }

unfoldable pub plan_shape : List TableInstance → Plan → Shape
plan_shape instances = fold-Plan Shape (shape_layer instances)

-- the rows of each plan of which this is so stand in the order that it delivers, in every database and environment
abbrev pub PlansDeliver : Type 0
PlansDeliver = (instances : List TableInstance) (D : Tables) (plan : Plan) (e : Env) → (plan_shape instances plan).stands ≡ true → IsOrdered (plan_order instances plan) (output_rows instances D plan e)
