-- Labels: goals, each with a cost that no plan of it undercuts. That the cheapest plan is made of cheapest inputs, goal by goal: P. Selinger et al., Access path
-- selection in a relational database management system, 1979; G. Graefe, The Cascades framework for query optimization, 1995 (winners). That costs which
-- bound each other step by step show a least one: R. Bellman, Dynamic programming, 1957. That they are kept as a certificate is this project's own.
use Rattle.std.specs.Prelude.{◌≡◌, ℕ, ◌≤◌, Bool, true, false, not, ◌&&◌, nat_le, if◌then◌else◌, List, [], ◌∷◌, option_map, Option, Some, None}
use Rattle.std.specs.List.{AllByRecursion, list_all, list_any}
use Rattle.query.specs.declared.query.TableInstance.{TableInstance}
use Rattle.derivation.specs.Logs.{Log}
use Rattle.physical.specs.declared.plan.Node.{Node}
use Rattle.physical.specs.declared.plan.Plan.{Plan}
use Rattle.statistics.specs.declared.counts.Statistics.{Statistics}
use Rattle.costs.specs.declared.nodes.Estimate.{Estimate}
use Rattle.costs.specs.Cardinalities.{class_rows}
use Rattle.costs.specs.Costs.{inputs_of, node_cost, plan_cost}
use Rattle.labels.specs.declared.goal.Goal.{Goal}
use Rattle.labels.specs.declared.goal.Label.{Label}
use Rattle.labels.specs.Offers.{goal_of, input_goals, is_goal, same_goal}
use Rattle.labels.specs.Plans.{Plans, columns_in}

abbrev pub Labels : Type 0
Labels = List Label

-- the cost of a goal's label; none where it has no label
abbrev pub cost_of : Labels → Goal → Option ℕ
cost_of [] goal = None
cost_of (l ∷ labels) goal = if same_goal l.goal goal then Some l.cost else cost_of labels goal

-- no goal has two labels
abbrev pub are_once : Labels → Bool
are_once [] = true
are_once (l ∷ labels) = not (list_any (λ k. same_goal k.goal l.goal) labels) && are_once labels

-- ---- what a node costs over the labels of its inputs, n being the rows of the classes

abbrev pub with_estimate : Goal → (ℕ → ℕ) → Option ℕ → Option (List Estimate) → Option (List Estimate)
with_estimate goal n None others = None
with_estimate goal n (Some cost) None = None
with_estimate goal n (Some cost) (Some others) = Some (record { rows = n goal.class; cost = cost } ∷ others)

-- plans for the goals as their labels estimate them; none where a goal has no label
abbrev pub estimates_of : (ℕ → ℕ) → Labels → List Goal → Option (List Estimate)
estimates_of n labels [] = Some []
estimates_of n labels (goal ∷ goals) = with_estimate goal n (cost_of labels goal) (estimates_of n labels goals)

-- there is a cost, and it is no less
abbrev pub is_at_least : ℕ → Option ℕ → Bool
is_at_least cost None = false
is_at_least cost (Some other) = nat_le cost other

-- a node, offered over inputs for the goals: each has a label, and over these it costs no less than its own goal's label
abbrev pub is_bounded : Statistics → List TableInstance → (ℕ → ℕ) → Labels → Label → Node → Option (List Goal) → Bool
is_bounded S instances n labels l node None = true
is_bounded S instances n labels l node (Some goals) = is_at_least l.cost (option_map (λ inputs. node_cost S instances node (n l.goal.class) (inputs_of inputs)) (estimates_of n labels goals))

-- so it is where the node is offered at the label's goal
abbrev pub bounds : Statistics → List TableInstance → Log → (ℕ → List ℕ) → (ℕ → ℕ) → Labels → Label → Node → Bool
bounds S instances E cols n labels l node = is_bounded S instances n labels l node (input_goals instances E cols l.goal node)

-- no node is offered at the label's goal over goals without labels, or costs less than the label over those of its inputs
abbrev pub IsBound : Statistics → List TableInstance → Log → Labels → Label → Type 0
IsBound S instances E labels l = (node : Node) → bounds S instances E (columns_in instances E) (class_rows S instances E) labels l node ≡ true

-- the plan is one of its goal and has the cost of the goal's label, and the labels are such bounds
pub record Labelled (S : Statistics) (instances : List TableInstance) (E : Log) (root : Goal) (p : Plan) (labels : Labels) : Type 0 where
  pub offered : Plans instances E (goal_of E root.class root.order) p
  pub goals : list_all (λ l. is_goal E (columns_in instances E) l.goal) labels ≡ true
  pub once : are_once labels ≡ true
  pub root_ : cost_of labels (goal_of E root.class root.order) ≡ Some (plan_cost S instances E p)
  pub bound : AllByRecursion (IsBound S instances E labels) labels

-- then no plan of the goal costs less
abbrev pub LabelsShowLeast : Type 0
LabelsShowLeast = (S : Statistics) (instances : List TableInstance) (E : Log) (root : Goal) (p : Plan) (labels : Labels) → Labelled S instances E root p labels
    → (q : Plan) → Plans instances E (goal_of E root.class root.order) q → plan_cost S instances E p ≤ plan_cost S instances E q
