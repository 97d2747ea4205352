-- Goals that are met from a root down, and what is offered for them.
use Rattle.std.specs.Prelude.{◌≡◌, ℕ, ◌<◌, ◌≤◌, List, length, Some, slice_get}
use Rattle.query.specs.declared.query.TableInstance.{TableInstance}
use Rattle.algebra.specs.Columns.{columns_at}
use Rattle.derivation.specs.Logs.{Log}
use Rattle.logs.specs.Logged.{Logged}
use Rattle.physical.specs.declared.plan.Node.{Node}
use Rattle.labels.specs.declared.goal.Goal.{Goal}
use Rattle.labels.specs.Offers.{input_goals}
use Rattle.labels.specs.Plans.{columns_in}
use Rattle.winners.specs.declared.space.Offer.{Offer}
use Rattle.winners.specs.declared.space.Space.{Space}
use Rattle.winners.specs.declared.collect.Met.{Met}
use Rattle.winners.specs.declared.collect.Wanted.{Wanted}
use Rattle.winners.specs.declared.goals.Goals.{Goals}
use Rattle.winners.specs.declared.nodes.Nodes.{Nodes}
use Rattle.winners.specs.Spans.{AreMade}
use Rattle.winners.specs.Found.{AreWithin}
use Rattle.winners.specs.Numbers.{AreDistinct, AreGoals, IsIndexed}
use Rattle.winners.specs.Offered.{AreOffered, AreSound, AreWhole}

-- each offer that has a number keeps it
abbrev pub IsBegun : List Offer → List Offer → Type 0
IsBegun old new = (k : ℕ) (o : Offer) → slice_get old k ≡ Some o → slice_get new k ≡ Some o

abbrev pub AreSoundFor : Wanted → List Goal → List Offer → Type 0
AreSoundFor w goals offers = AreSound w.derived.log.now.instances w.derived.log.now.log (columns_at w.derived.columns.now) goals w.nodes.now offers

-- an offer names the node for the goal
pub record Names (offers : List Offer) (goal node : ℕ) : Type 0 where
  pub place : ℕ
  pub offer : Offer
  pub offer_is : slice_get offers place ≡ Some offer
  pub goal_is : offer.goal ≡ goal
  pub node_is : offer.node ≡ node

-- where the node of a number is offered at the goal, an offer names it
abbrev pub HasOffer : Wanted → ℕ → List Offer → Type 0
HasOffer w k offers = (node : Node) (inputs : List Goal) → slice_get w.nodes.now k ≡ Some node
    → input_goals w.derived.log.now.instances w.derived.log.now.log (columns_at w.derived.columns.now) w.goal.now node ≡ Some inputs → Names offers w.number k

-- so it is of the nodes from one number on, and below another
abbrev pub HaveOffers : Wanted → ℕ → ℕ → List Offer → Type 0
HaveOffers w start end offers = (k : ℕ) → start ≤ k → k < end → HasOffer w k offers

-- offers of the first goals are whole, and all are sound
pub record AreMet (instances : List TableInstance) (E : Log) (cols : ℕ → List ℕ) (goals : Goals) (nodes : Nodes) (offers : List Offer) (count : ℕ) : Type 0 where
  pub indexed : IsIndexed E cols goals
  pub classes : length nodes.spans.items ≡ length E
  pub made : AreMade instances E cols nodes
  pub sound : AreSound instances E cols goals.list.items nodes.list.items offers
  pub whole : AreWhole instances E cols goals.list.items nodes.list.items offers count

-- so they are of all goals, and the root is one
pub record IsMet (instances : List TableInstance) (E : Log) (cols : ℕ → List ℕ) (root : Goal) (m : Met) : Type 0 where
  pub all : AreMet instances E cols m.goals m.nodes m.offers.items (length m.goals.list.items)
  pub root_is : slice_get m.goals.list.items m.root ≡ Some root

-- a space is of sound offers that leave no node out, for goals of a log, each of which has one number
pub record IsCollected (by : Space) (L : Logged) (goals : List Goal) : Type 0 where
  pub tables : by.instances.now ≡ L.instances
  pub formed : AreGoals L.log (columns_in by.instances.now L.log) goals
  pub distinct : AreDistinct goals
  pub offered : AreOffered by L.log goals
  pub whole : AreWhole by.instances.now L.log (columns_in by.instances.now L.log) goals by.nodes.now by.offers.now (length goals)
  pub within : AreWithin by (length goals)
