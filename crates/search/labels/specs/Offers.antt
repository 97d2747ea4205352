-- At which goals a node is offered, and the goals of its inputs. A goal is a class with the order that is wanted of its rows; a node that implements a line
-- is offered at goals of the line's class, and a sort, the enforcer of an order, at each goal with one: G. Graefe, The Cascades framework for query
-- optimization, 1995. That an order is kept for what may use it: P. Selinger et al., Access path selection in a relational database management system, 1979.
use Rattle.std.specs.Prelude.{ℕ, Bool, true, false, not, ◌&&◌, ◌==◌, if◌then◌else◌, List, [], ◌∷◌, ◌++◌, filter, map, option_map, Option, Some, None}
use Rattle.std.specs.List.{list_any}
use Rattle.query.specs.declared.query.TableInstance.{TableInstance}
use Rattle.algebra.specs.declared.expr.Expr.{Expr}
use Rattle.algebra.specs.Columns.{rising}
use Rattle.algebra.specs.Expressions.{children}
use Rattle.rules.specs.Matches as matches
use Rattle.derivation.specs.Logs.{Log, founds, least, member}
use Rattle.physical.specs.declared.plan.OrderKey.{OrderKey}
use Rattle.physical.specs.declared.plan.JoinMethod.{JoinMethod}
use Rattle.physical.specs.declared.plan.JoinMethod.TheVariants as join
use Rattle.physical.specs.declared.plan.GroupMethod.{GroupMethod}
use Rattle.physical.specs.declared.plan.GroupMethod.TheVariants as group
use Rattle.physical.specs.declared.plan.Operator.{Operator}
use Rattle.physical.specs.declared.plan.Operator.TheVariants.{Scan, IndexScan, Filter, FilterSubqueries, Projection, JoinRows, IndexJoin, GroupRows, DistinctRows}
use Rattle.physical.specs.declared.plan.Node.{Node}
use Rattle.physical.specs.declared.plan.Node.TheVariants.{Implements, Sort}
use Rattle.physical.specs.Indexes.{index_order, rising_keys}
use Rattle.physical.specs.Orders.{are_columns}
use Rattle.physical.specs.Outputs.{first_columns}
use Rattle.physical.specs.RequiredOrders.{begins_with, begins_with_all, rises_by, same_order}
use Rattle.certificate.specs.Replay.{implements, index_fits, is_member, needed_classes}
use Rattle.labels.specs.declared.goal.Goal.{Goal}

-- ---- goals

-- the rows of a class in an order, the least of its sames standing for it
abbrev pub goal_of : Log → ℕ → List OrderKey → Goal
goal_of E g order = record { class = least E g; order = order }

abbrev pub same_goal : Goal → Goal → Bool
same_goal a b = (a.class == b.class) && same_order a.order b.order

-- no two keys are of one column
abbrev pub are_different : List OrderKey → Bool
are_different [] = true
are_different (k ∷ keys) = not (list_any (λ j. j.column == k.column) keys) && are_different keys

-- the class is founded and stands for its sames, and the order is by different columns of it
abbrev pub is_goal : Log → (ℕ → List ℕ) → Goal → Bool
is_goal E cols goal = (founds E goal.class && (least E goal.class == goal.class)) && (are_columns (cols goal.class) goal.order && are_different goal.order)

-- ---- orders

abbrev pub is_any : List OrderKey → Bool
is_any [] = true
is_any (k ∷ order) = false

-- the order, and behind it, rising, those of the columns by which it has no key
abbrev pub and_others : List OrderKey → List ℕ → List OrderKey
and_others order columns = order ++ rising_keys (filter (λ c. not (list_any (λ k. k.column == c) order)) (rising columns))

abbrev pub where_so : {X : Type 0} → Bool → X → Option X
where_so b x = if b then Some x else None

-- the orders of a join's sides, so that its rows are in the order
abbrev pub merge_orders : ℕ → ℕ → List OrderKey → Option (List (List OrderKey))
merge_orders a b [] = Some (rising_keys (a ∷ []) ∷ rising_keys (b ∷ []) ∷ [])
merge_orders a b (k ∷ order) = where_so (rises_by a (k ∷ order)) ((k ∷ order) ∷ rising_keys (b ∷ []) ∷ [])

abbrev pub side_orders : JoinMethod → List OrderKey → Option (List (List OrderKey))
side_orders join.NestedLoop order = Some (order ∷ [])
side_orders join.Hash order = Some (order ∷ [])
side_orders (join.Merge a b) order = merge_orders a b order

-- a join's rows are in an order of its left side
abbrev pub join_orders : JoinMethod → List ℕ → List OrderKey → Option (List (List OrderKey))
join_orders method left order = if are_columns left order then side_orders method order else None

-- the orders of a group's input, and of a distinct's of rows with these columns; where they are sorted, it begins with all of these, as they require
abbrev pub group_orders : GroupMethod → List ℕ → List OrderKey → Option (List (List OrderKey))
group_orders group.Hash keys order = where_so (is_any order) []
group_orders group.Sorted keys order =
    let sorted = and_others order keys in
    where_so (are_columns keys order && begins_with_all keys sorted) (sorted ∷ [])

abbrev pub distinct_orders : GroupMethod → List ℕ → List OrderKey → Option (List (List OrderKey))
distinct_orders group.Hash columns order = Some (order ∷ [])
distinct_orders group.Sorted columns order =
    let sorted = and_others order columns in
    where_so (begins_with_all columns sorted) (sorted ∷ [])

-- the orders that are wanted of the inputs, so that an operator's rows are in the order, the first of the classes that it computes an expression over having
-- these columns; behind the last of the orders none is wanted. None where the operator isn't offered in the order
abbrev pub input_orders : List TableInstance → Operator → List ℕ → List OrderKey → Option (List (List OrderKey))
input_orders instances (Scan o) columns order = where_so (is_any order) []
input_orders instances (IndexScan a C) columns order = where_so (begins_with (index_order instances a) order) []
input_orders instances (Filter C) columns order = Some (order ∷ [])
input_orders instances (FilterSubqueries C) columns order = Some (order ∷ [])
input_orders instances (Projection K) columns order = Some (order ∷ [])
input_orders instances (JoinRows method j) columns order = join_orders method columns order
input_orders instances (IndexJoin a j) columns order = join_orders join.NestedLoop columns order
input_orders instances (GroupRows method K G) columns order = group_orders method K order
input_orders instances (DistinctRows method) columns order = distinct_orders method columns order

-- ---- nodes

-- goals of classes in these orders, and of those behind them in any
abbrev pub goals_of : Log → List ℕ → List (List OrderKey) → List Goal
goals_of E [] orders = []
goals_of E (g ∷ classes) [] = goal_of E g [] ∷ goals_of E classes []
goals_of E (g ∷ classes) (order ∷ orders) = goal_of E g order ∷ goals_of E classes orders

-- of an operator that implements a line with the expression
abbrev pub operator_goals : List TableInstance → Log → (ℕ → List ℕ) → List OrderKey → ℕ → Operator → Expr → Option (List Goal)
operator_goals instances E cols order line operator x =
    if implements cols operator x && index_fits instances E line operator x then option_map (goals_of E (needed_classes operator x)) (input_orders instances operator (first_columns (map cols (children x))) order) else None

-- the line is a member of the goal's class
abbrev pub member_goals : List TableInstance → Log → (ℕ → List ℕ) → Goal → ℕ → Operator → Option matches.Line → Option (List Goal)
member_goals instances E cols goal line operator None = None
member_goals instances E cols goal line operator (Some l) = if is_member E l goal.class then operator_goals instances E cols goal.order line operator l.expr else None

-- the goals of a node's inputs, where it is offered at the goal
abbrev pub input_goals : List TableInstance → Log → (ℕ → List ℕ) → Goal → Node → Option (List Goal)
input_goals instances E cols goal (Implements line operator) = member_goals instances E cols goal line operator (member E line)
input_goals instances E cols goal (Sort keys) = where_so (not (is_any goal.order) && same_order keys goal.order) (goal_of E goal.class [] ∷ [])
