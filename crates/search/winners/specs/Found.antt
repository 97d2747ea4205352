-- Plans that were found, each of an offered node over older plans, and the cheapest of each goal. Goals, nodes, offers and plans go by their numbers.
-- That a goal's cheapest plan is made of the cheapest ones of its inputs' goals: P. Selinger et al., Access path selection in a relational database
-- management system, 1979; G. Graefe, The Cascades framework for query optimization, 1995 (winners).
use Rattle.std.specs.Prelude.{◌≡◌, ℕ, ◌<◌, ◌≤◌, ◌⊎◌, List, map, length, option_map, Option, Some, None, slice_get, slice_index}
use Rattle.std.specs.List.{AllZip}
use Rattle.physical.specs.declared.plan.Node.{Node}
use Rattle.costs.specs.declared.nodes.Estimate.{Estimate}
use Rattle.costs.specs.declared.nodes.Inputs.{Inputs}
use Rattle.costs.specs.Costs.{inputs_of, node_cost, with_cut_costs}
use Rattle.winners.specs.declared.space.Offer.{Offer}
use Rattle.winners.specs.declared.space.Space.{Space}
use Rattle.winners.specs.declared.found.FoundPlan.{FoundPlan}
use Rattle.winners.specs.declared.found.Cheapest.{Cheapest}

-- ---- the cheapest plans of goals

abbrev pub or_none : Option (Option Cheapest) → Option Cheapest
or_none None = None
or_none (Some found) = found

abbrev pub cheapest_of : List (Option Cheapest) → ℕ → Option Cheapest
cheapest_of cheapest goal = or_none (slice_get cheapest goal)

-- each of the goals has one of these
abbrev pub AreCheapest : List (Option Cheapest) → List ℕ → List Cheapest → Type 0
AreCheapest cheapest = AllZip (λ goal c. cheapest_of cheapest goal ≡ Some c)

abbrev pub SomeLacks : List (Option Cheapest) → List ℕ → Type 0
SomeLacks cheapest goals = (cs : List Cheapest) → AreCheapest cheapest goals cs → ⊥

abbrev pub estimates : List Cheapest → List Estimate
estimates = map (λ c. c.estimate)

-- what is estimated of them as inputs, and which plans they are
abbrev pub AreEstimated : List (Option Cheapest) → List ℕ → Inputs → Type 0
AreEstimated cheapest goals inputs = (cs : List Cheapest) × AreCheapest cheapest goals cs × (inputs ≡ with_cut_costs (inputs_of (estimates cs)))

abbrev pub AreChosen : List (Option Cheapest) → List ℕ → List ℕ → Type 0
AreChosen cheapest goals plans = (cs : List Cheapest) × AreCheapest cheapest goals cs × (plans ≡ map (λ c. c.plan) cs)

-- ---- offers

-- an offered node over inputs, and over plans with these estimates
abbrev pub estimate_over : Space → Offer → Node → Inputs → Estimate
estimate_over by o node inputs =
    let rows = slice_index by.rows.now o.goal in
    record { rows = rows; cost = node_cost by.statistics.now by.instances.now node rows inputs }

abbrev pub offer_estimate : Space → Offer → Node → List Estimate → Estimate
offer_estimate by o node xs = estimate_over by o node (inputs_of xs)

-- there are its goal, among so many, and its node
pub record IsWithin (by : Space) (goals : ℕ) (o : Offer) : Type 0 where
  pub goal : o.goal < goals
  pub node : o.node < length by.nodes.now
  pub rows : o.goal < length by.rows.now

abbrev pub AreWithin : Space → ℕ → Type 0
AreWithin by goals = (i : ℕ) (o : Offer) → slice_get by.offers.now i ≡ Some o → IsWithin by goals o

-- where the goals of all inputs have plans, the offer's own goal has one, and the offer over the cheapest of those is no cheaper
abbrev pub IsSettled : Space → List (Option Cheapest) → Offer → Type 0
IsSettled by cheapest o = (node : Node) → slice_get by.nodes.now o.node ≡ Some node → (cs : List Cheapest) → AreCheapest cheapest o.inputs cs
    → (c : Cheapest) × (cheapest_of cheapest o.goal ≡ Some c) × (c.estimate.cost ≤ (offer_estimate by o node (estimates cs)).cost)

-- so are all from a number on
abbrev pub AreSettled : Space → List (Option Cheapest) → ℕ → Type 0
AreSettled by cheapest from = (i : ℕ) (o : Offer) → from ≤ i → slice_get by.offers.now i ≡ Some o → IsSettled by cheapest o

-- ---- plans

-- the goal for which a plan was found
abbrev pub plan_goal : List Offer → FoundPlan → Option ℕ
plan_goal offers x = option_map (λ o. o.goal) (slice_get offers x.offer)

-- the plans of these numbers, all less than one
abbrev pub AreOlder : List FoundPlan → ℕ → List ℕ → List FoundPlan → Type 0
AreOlder found number = AllZip (λ k x. (k < number) × (slice_get found k ≡ Some x))

abbrev pub ArePlansFor : List Offer → List ℕ → List FoundPlan → Type 0
ArePlansFor offers = AllZip (λ goal x. plan_goal offers x ≡ Some goal)

-- an offer over older plans, one for the goal of each input, with what is estimated of it
pub record IsPlan (by : Space) (found : List FoundPlan) (number : ℕ) (x : FoundPlan) : Type 0 where
  pub offer : Offer
  pub node : Node
  pub below : List FoundPlan
  pub offer_is : slice_get by.offers.now x.offer ≡ Some offer
  pub node_is : slice_get by.nodes.now offer.node ≡ Some node
  pub older : AreOlder found number x.inputs below
  pub goals : ArePlansFor by.offers.now offer.inputs below
  pub estimate_is : x.estimate ≡ offer_estimate by offer node (map (λ y. y.estimate) below)

abbrev pub ArePlans : Space → List FoundPlan → Type 0
ArePlans by found = (k : ℕ) (x : FoundPlan) → slice_get found k ≡ Some x → IsPlan by found k x

-- the cheapest plan of a goal is one that was found for it
pub record IsFoundFor (by : Space) (found : List FoundPlan) (goal : ℕ) (c : Cheapest) : Type 0 where
  pub plan : FoundPlan
  pub plan_is : slice_get found c.plan ≡ Some plan
  pub goal_is : plan_goal by.offers.now plan ≡ Some goal
  pub estimate_is : plan.estimate ≡ c.estimate

pub record AreFound (by : Space) (found : List FoundPlan) (cheapest : List (Option Cheapest)) : Type 0 where
  pub plans : ArePlans by found
  pub each : (goal : ℕ) (c : Cheapest) → cheapest_of cheapest goal ≡ Some c → IsFoundFor by found goal c

-- ---- one offer tried

-- either nothing is changed, since the offer is settled, or there is a new plan
pub record IsTried (by : Space) (o : Offer) (found found' : List FoundPlan) (cheapest cheapest' : List (Option Cheapest)) : Type 0 where
  pub as_many : length cheapest' ≡ length cheapest
  pub outcome : ((cheapest' ≡ cheapest) × (found' ≡ found) × IsSettled by cheapest o) ⊎ (length found < length found')
