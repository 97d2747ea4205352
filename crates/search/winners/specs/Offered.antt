-- What is offered for goals by the lines of a log, and plans of it.
use Rattle.std.specs.Prelude.{◌≡◌, ℕ, ◌<◌, Bool, true, List, length, Option, Some, None, slice_get, slice_index}
use Rattle.query.specs.declared.query.TableInstance.{TableInstance}
use Rattle.derivation.specs.Logs.{Log, least}
use Rattle.physical.specs.declared.plan.Node.{Node}
use Rattle.physical.specs.declared.plan.Plan.{Plan}
use Rattle.costs.specs.Cardinalities.{class_rows}
use Rattle.costs.specs.Costs.{plan_estimate}
use Rattle.labels.specs.declared.goal.Goal.{Goal}
use Rattle.labels.specs.declared.goal.Label.{Label}
use Rattle.labels.specs.Offers.{input_goals}
use Rattle.labels.specs.Plans.{Plans, columns_in}
use Rattle.winners.specs.declared.space.Offer.{Offer}
use Rattle.winners.specs.declared.space.Space.{Space}
use Rattle.winners.specs.declared.found.FoundPlan.{FoundPlan}
use Rattle.winners.specs.declared.found.Cheapest.{Cheapest}
use Rattle.winners.specs.Found.{cheapest_of, plan_goal}
use Rattle.winners.specs.Numbers.{AreNumbers}

-- ---- offers

-- the node is offered at the goal, over inputs for just the goals that are named
pub record IsSound (instances : List TableInstance) (E : Log) (cols : ℕ → List ℕ) (goals : List Goal) (nodes : List Node) (o : Offer) : Type 0 where
  pub goal : Goal
  pub node : Node
  pub inputs : List Goal
  pub goal_is : slice_get goals o.goal ≡ Some goal
  pub node_is : slice_get nodes o.node ≡ Some node
  pub offered : input_goals instances E cols goal node ≡ Some inputs
  pub inputs_are : AreNumbers goals o.inputs inputs

abbrev pub AreSound : List TableInstance → Log → (ℕ → List ℕ) → List Goal → List Node → List Offer → Type 0
AreSound instances E cols goals nodes offers = (i : ℕ) (o : Offer) → slice_get offers i ≡ Some o → IsSound instances E cols goals nodes o

-- the nodes that offers name for the goal of a number have a property
abbrev pub HoldsOfOffers : List Node → List Offer → ℕ → (Node → Bool) → Type 0
HoldsOfOffers nodes offers goal p = (k : ℕ) (o : Offer) (node : Node) → slice_get offers k ≡ Some o → o.goal ≡ goal → slice_get nodes o.node ≡ Some node → p node ≡ true

-- what holds of the nodes that offers name for the goal of a number holds of all that are offered at it: none is left out
abbrev pub IsWhole : List TableInstance → Log → (ℕ → List ℕ) → List Goal → List Node → List Offer → ℕ → Type 0
IsWhole instances E cols goals nodes offers i =
    (goal : Goal) → slice_get goals i ≡ Some goal → (p : Node → Bool) → HoldsOfOffers nodes offers i p
    → (node : Node) (inputs : List Goal) → input_goals instances E cols goal node ≡ Some inputs → p node ≡ true

-- so it is of the first of the goals
abbrev pub AreWhole : List TableInstance → Log → (ℕ → List ℕ) → List Goal → List Node → List Offer → ℕ → Type 0
AreWhole instances E cols goals nodes offers count = (i : ℕ) → i < count → IsWhole instances E cols goals nodes offers i

-- ---- plans

-- the offers are sound for these goals, whose classes have so many rows
pub record AreOffered (by : Space) (E : Log) (goals : List Goal) : Type 0 where
  pub sound : AreSound by.instances.now E (columns_in by.instances.now E) goals by.nodes.now by.offers.now
  pub stand : (i : ℕ) (goal : Goal) → slice_get goals i ≡ Some goal → least E goal.class ≡ goal.class
  pub rows : (i : ℕ) (goal : Goal) → slice_get goals i ≡ Some goal → slice_index by.rows.now i ≡ class_rows by.statistics.now by.instances.now E goal.class

-- a plan for the goal for which one was found, with what was estimated of it
pub record IsPlanFor (by : Space) (E : Log) (goals : List Goal) (found : List FoundPlan) (number : ℕ) (p : Plan) : Type 0 where
  pub plan : FoundPlan
  pub goal : Goal
  pub goal_number : ℕ
  pub plan_is : slice_get found number ≡ Some plan
  pub number_is : plan_goal by.offers.now plan ≡ Some goal_number
  pub goal_is : slice_get goals goal_number ≡ Some goal
  pub offered : Plans by.instances.now E goal p
  pub rows_are : plan.estimate.rows ≡ class_rows by.statistics.now by.instances.now E goal.class
  pub estimate_is : plan_estimate by.statistics.now by.instances.now (class_rows by.statistics.now by.instances.now E) E p ≡ plan.estimate

abbrev pub IsBuilt : Space → List FoundPlan → ℕ → Plan → Type 0
IsBuilt by found number p = (E : Log) (goals : List Goal) → AreOffered by E goals → IsPlanFor by E goals found number p

-- ---- labels

-- the goal of a number has a label with the cost of its cheapest plan
pub record HasLabel (goals : List Goal) (cheapest : List (Option Cheapest)) (labels : List Label) (i : ℕ) : Type 0 where
  pub goal : Goal
  pub found : Cheapest
  pub goal_is : slice_get goals i ≡ Some goal
  pub found_is : cheapest_of cheapest i ≡ Some found
  pub label_is : slice_get labels i ≡ Some (record { goal = goal; cost = found.estimate.cost })

-- so have the first of them
pub record HaveLabels (goals : List Goal) (cheapest : List (Option Cheapest)) (count : ℕ) (labels : List Label) : Type 0 where
  pub length_ : length labels ≡ count
  pub each : (i : ℕ) → i < count → HasLabel goals cheapest labels i

-- the goal of a number has no plan
pub record SomeGoalLacks (goals : List Goal) (cheapest : List (Option Cheapest)) : Type 0 where
  pub number : ℕ
  pub within : number < length goals
  pub lacks : cheapest_of cheapest number ≡ None
