-- Over a log whose lines replay the goals of inputs are goals, and each goal has a plan once all offers are settled.
use Rattle.std.proofs.Common.{◌≡◌, refl, ap, sym, ◌∙◌, subst, ℕ, zero, suc, ◌+◌, ◌<◌, Bool, true, false, not, ◌==◌, ◌&&◌, List, [], ◌∷◌, length, slice_get, Option, Some, None, arith}
use Rattle.std.specs.List.{list_all}
use Rattle.std.proofs.lemmas.Bool.{and_from, and_parts, eqb-true, lt-ltb, ltb-true}
use Rattle.std.proofs.lemmas.Option.{slice_get_within}
use Rattle.query.specs.declared.query.TableInstance.{TableInstance}
use Rattle.algebra.specs.declared.expr.Aggregation.{Aggregation}
use Rattle.derivation.specs.Logs.{Log, founds, least}
use Rattle.derivation.specs.Replay.{Replays}
use Rattle.physical.specs.declared.plan.OrderKey.{OrderKey}
use Rattle.physical.specs.declared.plan.Node.{Node}
use Rattle.physical.specs.declared.plan.Node.TheVariants.{Sort}
use Rattle.physical.specs.Orders.{are_columns}
use Rattle.physical.specs.RequiredOrders.{same_order}
use Rattle.labels.specs.declared.goal.Goal.{Goal}
use Rattle.labels.specs.Offers.{are_different, goal_of, input_goals, is_any, is_goal, where_so}
use Rattle.labels.specs.Plans.{columns_in}
use Rattle.labels.proofs.ClosedGoals.{HasNode, basic-node, is_lower, node-goals-are}
use Rattle.labels.proofs.Shaped.{AreShaped, are-shaped}
use Rattle.winners.specs.declared.space.Space.{Space}
use Rattle.winners.specs.declared.found.Cheapest.{Cheapest}
use Rattle.winners.specs.Found.{AreCheapest, AreSettled, cheapest_of}
use Rattle.winners.specs.Numbers.{AreClosed, AreGoals, AreNumbers}
use Rattle.winners.specs.Offered.{AreOffered, AreWhole, HoldsOfOffers, IsSound, SomeGoalLacks}
use Rattle.winners.proofs.Labelling.{same_order-refl}
use Rattle.winners.proofs.Lists.{same_read, there}

pub closed : (instances : List TableInstance) (own : List Aggregation) (E : Log) → Replays instances own E → AreClosed instances E (columns_in instances E)
closed instances own E replays = node-goals-are instances own E (are-shaped instances own E replays)

-- the class of a goal founds and stands for its sames
goal-class : (E : Log) (cols : ℕ → List ℕ) (goal : Goal) → is_goal E cols goal ≡ true → (founds E goal.class ≡ true) × (least E goal.class ≡ goal.class)
goal-class E cols goal is =
    let first = and_parts (founds E goal.class && (least E goal.class == goal.class)) (are_columns (cols goal.class) goal.order && are_different goal.order) is in
    let both = and_parts (founds E goal.class) (least E goal.class == goal.class) first.0 in
    (both.0, eqb-true (least E goal.class) goal.class both.1)

module _ (by : Space) (own : List Aggregation) (E : Log) (goals : List Goal) (cheapest : List (Option Cheapest)) (replays : Replays by.instances.now own E)
    (offered : AreOffered by E goals) (formed : AreGoals E (columns_in by.instances.now E) goals)
    (whole : AreWhole by.instances.now E (columns_in by.instances.now E) goals by.nodes.now by.offers.now (length goals)) (settled : AreSettled by cheapest 0) where
  abbrev tables : List TableInstance
  tables = by.instances.now

  abbrev cols : ℕ → List ℕ
  cols = columns_in tables E

  abbrev shaped : AreShaped tables own E
  shaped = are-shaped tables own E replays

  abbrev HasPlan : ℕ → Type 0
  HasPlan i = (c : Cheapest) × (cheapest_of cheapest i ≡ Some c)

  -- the goals with a property have plans
  abbrev HavePlans : (Goal → Bool) → Type 0
  HavePlans Q = (i : ℕ) (goal : Goal) → slice_get goals i ≡ Some goal → Q goal ≡ true → HasPlan i

  abbrev all_some : (Goal → Bool) → Option (List Goal) → Bool
  all_some Q None = false
  all_some Q (Some inputs) = list_all Q inputs

  inputs_have : (Q : Goal → Bool) → HavePlans Q → (numbers : List ℕ) (inputs : List Goal) → AreNumbers goals numbers inputs → list_all Q inputs ≡ true → (cs : List Cheapest) × AreCheapest cheapest numbers cs
  inputs_have Q have [] [] h all = ([], tt)
  inputs_have Q have [] (g ∷ inputs) h all = absurd h
  inputs_have Q have (i ∷ numbers) [] h all = absurd h
  inputs_have Q have (i ∷ numbers) (g ∷ inputs) h all =
      let both = and_parts (Q g) (list_all Q inputs) all in
      let first = have i g h.0 both.0 in
      let later = inputs_have Q have numbers inputs h.1 both.1 in
      (first.0 ∷ later.0, (first.1, later.1))

  -- where a goal has none, no offer for it is over such goals alone
  none_over : (Q : Goal → Bool) → HavePlans Q → (i : ℕ) (goal : Goal) → slice_get goals i ≡ Some goal → cheapest_of cheapest i ≡ None
      → HoldsOfOffers by.nodes.now by.offers.now i (λ node. not (all_some Q (input_goals tables E cols goal node)))
  none_over Q have i goal at lacks k o node o_is number node_is = over (list_all Q sound.inputs) refl
    where
      sound : IsSound tables E cols goals by.nodes.now o
      sound = offered.sound k o o_is

      wants : input_goals tables E cols goal node ≡ Some sound.inputs
      wants =
          let goals_are = same_read (slice_get goals i) sound.goal goal (ap (slice_get goals) (sym number) ∙ sound.goal_is) at in
          let nodes_are = same_read (slice_get by.nodes.now o.node) sound.node node sound.node_is node_is in
          subst (λ n. input_goals tables E cols goal n ≡ Some sound.inputs) nodes_are (subst (λ g. input_goals tables E cols g sound.node ≡ Some sound.inputs) goals_are sound.offered)

      over : (b : Bool) → list_all Q sound.inputs ≡ b → not (all_some Q (input_goals tables E cols goal node)) ≡ true
      over true all =
          let below = inputs_have Q have o.inputs sound.inputs sound.inputs_are all in
          let own_plan = settled k o (omega arith) o_is node node_is below.0 below.1 in
          let never : None ≡ Some own_plan.0 = sym lacks ∙ ap (cheapest_of cheapest) (sym number) ∙ own_plan.1 in
          absurd (cc)
      over false other = ap (λ found. not (all_some Q found)) wants ∙ ap not other

  -- a goal at which a node is offered over goals with plans has one
  over-node : (Q : Goal → Bool) → HavePlans Q → (i : ℕ) (goal : Goal) → slice_get goals i ≡ Some goal → HasNode tables own E shaped goal Q → HasPlan i
  over-node Q have i goal at is = by_found (cheapest_of cheapest i) refl
    where
      by_found : (found : Option Cheapest) → cheapest_of cheapest i ≡ found → HasPlan i
      by_found (Some c) has = (c, has)
      by_found None lacks =
          let p : Node → Bool = λ node. not (all_some Q (input_goals tables E cols goal node)) in
          let no : p is.node ≡ true = whole i (slice_get_within goals i goal at) goal at p (none_over Q have i goal at lacks) is.node is.goals is.offered in
          let yes : p is.node ≡ false = ap (λ found. not (all_some Q found)) is.offered ∙ ap not is.passes in
          absurd (cc)

  -- ---- goals without an order, by their classes

  no-order : (goal : Goal) → is_any goal.order ≡ true → goal ≡ record { class = goal.class; order = [] }
  no-order goal is = ap (λ order. record { class = goal.class; order = order }) (empty goal.order is)
    where
      empty : (order : List OrderKey) → is_any order ≡ true → order ≡ []
      empty [] is = refl
      empty (k ∷ order) is = absurd (cc)

  below : (n : ℕ) → HavePlans (is_lower tables own E shaped n)
  below zero i goal at low = let lt : goal.class < 0 = ltb-true goal.class 0 (and_parts _ (is_any goal.order) low).0 in absurd (omega (arith, lt))
  below (suc n) i goal at low =
      let both = and_parts _ (is_any goal.order) low in
      let lt : goal.class < suc n = ltb-true goal.class (suc n) both.0 in
      let is = goal-class E cols goal (formed i goal at) in
      let node = basic-node tables own E shaped goal.class is.0 is.1 in
      let within : HavePlans (is_lower tables own E shaped goal.class) = λ j g g_at g_low.
      let parts = and_parts _ (is_any g.order) g_low in
      let g_lt : g.class < goal.class = ltb-true g.class goal.class parts.0 in
      below n j g g_at (and_from _ (is_any g.order) (lt-ltb g.class n (omega (arith, lt, g_lt))) parts.1) in
      over-node (is_lower tables own E shaped goal.class) within i goal at (subst (λ g. HasNode tables own E shaped g (is_lower tables own E shaped goal.class)) (sym (no-order goal both.1)) node)

  unordered : HavePlans (λ goal. is_any goal.order)
  unordered i goal at any = below (goal.class + 1) i goal at (and_from _ (is_any goal.order) (lt-ltb goal.class (goal.class + 1) (omega arith)) any)

  -- ---- goals with one, by sorts

  sorted-node : (goal : Goal) → is_any goal.order ≡ false → HasNode tables own E shaped goal (λ g. is_any g.order)
  sorted-node goal ordered = record {
    node = Sort goal.order;
    goals = goal_of E goal.class [] ∷ [];
    offered = ap (λ b. where_so (not b && same_order goal.order goal.order) (goal_of E goal.class [] ∷ [])) ordered ∙ ap (λ b. where_so b (goal_of E goal.class [] ∷ [])) (same_order-refl goal.order);
    passes = refl;
  }

  pub each-goal : (i : ℕ) (goal : Goal) → slice_get goals i ≡ Some goal → HasPlan i
  each-goal i goal at = by_order (is_any goal.order) refl
    where
      by_order : (b : Bool) → is_any goal.order ≡ b → HasPlan i
      by_order true any = unordered i goal at any
      by_order false ordered = over-node (λ g. is_any g.order) unordered i goal at (sorted-node goal ordered)

  pub none-lacks : SomeGoalLacks goals cheapest → ⊥
  none-lacks h =
      let own_goal = there goals h.number h.within in
      let has = each-goal h.number own_goal.0 own_goal.1 in
      let never : None ≡ Some has.0 = sym h.lacks ∙ has.1 in
      absurd (cc)
