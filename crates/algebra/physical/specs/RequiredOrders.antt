-- The orders that operators require of their inputs (G. Graefe, The Cascades framework for query optimization, 1995: required
-- physical properties), and whether each node of a plan gets them.
use Rattle.std.specs.Prelude.{ℕ, Bool, true, false, ◌&&◌, List, [], ◌∷◌, map, length, take}
use Rattle.std.specs.Coded.{coded_list}
use Rattle.std.specs.List.{list_all}
use Rattle.query.specs.declared.query.TableInstance.{TableInstance}
use Rattle.algebra.specs.Columns.{rising}
use Rattle.algebra.specs.ConditionEquality.{same_by}
use Rattle.algebra.specs.Equality.{same_columns}
use Rattle.physical.specs.declared.plan.OrderKey.{OrderKey}
use Rattle.physical.specs.contracts.plan.OrderKey as order_key
use Rattle.physical.specs.declared.plan.JoinMethod.TheVariants.{Merge}
use Rattle.physical.specs.declared.plan.GroupMethod.TheVariants.{Sorted}
use Rattle.physical.specs.declared.plan.Operator.{Operator}
use Rattle.physical.specs.declared.plan.Operator.TheVariants.{JoinRows, GroupRows, DistinctRows}
use Rattle.physical.specs.declared.plan.Node.{Node}
use Rattle.physical.specs.declared.plan.Node.TheVariants.{Implements, Sort}
use Rattle.physical.specs.declared.plan.Plan.{Plan, fold-Plan}
use Rattle.physical.specs.declared.plan.Plan.TheOpen.{Plan-F}
use Rattle.physical.specs.Outputs.{first_columns, node_columns}
use Rattle.physical.specs.Orders.{first_order, node_order, node_stands}

-- ---- the beginning of an order

unfoldable pub same_order : List OrderKey → List OrderKey → Bool
same_order = same_by (coded_list order_key.the_row.coded)

-- an order begins with another
abbrev pub begins_with : List OrderKey → List OrderKey → Bool
begins_with order wanted = same_order (take (length wanted) order) wanted

-- an order begins with the column, rising
abbrev pub rises_by : ℕ → List OrderKey → Bool
rises_by c order = begins_with order (record { column = c; descending = false } ∷ [])

-- an order begins with the columns, in whatever order of their own
abbrev pub begins_with_all : List ℕ → List OrderKey → Bool
begins_with_all K order = same_columns (rising (map (λ k. k.column) (take (length K) order))) K

-- ---- what is required

abbrev pub second_order : List (List OrderKey) → List OrderKey
second_order [] = []
second_order (order ∷ orders) = first_order orders

-- the inputs, with these columns, deliver the orders that the operator requires
abbrev pub are_sorted : Operator → List (List ℕ) → List (List OrderKey) → Bool
are_sorted (JoinRows (Merge a b) j) columns orders = rises_by a (first_order orders) && rises_by b (second_order orders)
are_sorted (GroupRows Sorted K G) columns orders = begins_with_all K (first_order orders)
are_sorted (DistinctRows Sorted) columns orders = begins_with_all (first_columns columns) (first_order orders)
are_sorted operator columns orders = true

abbrev pub inputs_sorted : Node → List (List ℕ) → List (List OrderKey) → Bool
inputs_sorted (Implements line operator) columns orders = are_sorted operator columns orders
inputs_sorted (Sort keys) columns orders = true

-- ---- plans

-- the columns of a plan's rows, the order that they are delivered in, and whether each node delivers its order and gets those that
-- it requires
pub record Supply : Type 0 where
  pub columns : List ℕ
  pub order : List OrderKey
  pub sorted : Bool

-- so it is of all inputs
abbrev pub all_sorted : List Supply → Bool
all_sorted inputs = list_all (λ x. x.sorted) inputs

abbrev pub supply_layer : List TableInstance → Plan-F Supply → Supply
supply_layer instances p =
    let columns = map (λ x. x.columns) p.inputs in
    let orders = map (λ x. x.order) p.inputs in
    record {
      columns = node_columns instances p.node columns;
      order = node_order instances p.node orders;
      sorted = node_stands instances p.node columns && (inputs_sorted p.node columns orders && all_sorted p.inputs);
    }

unfoldable pub plan_supply : List TableInstance → Plan → Supply
plan_supply instances = fold-Plan Supply (supply_layer instances)
