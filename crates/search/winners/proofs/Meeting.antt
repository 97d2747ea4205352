-- What was met, as a space to be searched.
use Rattle.std.proofs.Common.{◌≡◌, ap, sym, ◌∙◌, subst, ℕ, zero, suc, ◌≤◌, List, [], ◌∷◌, length, map, slice_get, slice_index, Option, Some, arith}
use Rattle.std.proofs.lemmas.List.{length-map}
use Rattle.std.proofs.lemmas.Option.{slice_get_within}
use Rattle.derivation.specs.Replay.{Replays}
use Rattle.logs.specs.Logged.{Logged}
use Rattle.physical.specs.declared.plan.Plan.{Plan}
use Rattle.costs.specs.Cardinalities.{AreRows, class_rows, rows_at}
use Rattle.costs.specs.Costs.{plan_cost}
use Rattle.labels.specs.declared.goal.Goal.{Goal}
use Rattle.labels.specs.declared.goal.Label.{Label}
use Rattle.labels.specs.Labels.{Labelled}
use Rattle.labels.specs.Offers.{goal_of}
use Rattle.labels.specs.Plans.{columns_in}
use Rattle.winners.specs.declared.space.Space.{Space}
use Rattle.winners.specs.declared.collect.Met.{Met}
use Rattle.winners.specs.declared.found.FoundPlan.{FoundPlan}
use Rattle.winners.specs.declared.found.Cheapest.{Cheapest}
use Rattle.winners.specs.Collected.{IsCollected, IsMet}
use Rattle.winners.specs.Found.{AreFound, AreSettled, cheapest_of}
use Rattle.winners.specs.Numbers.{AreGoals, Keeps}
use Rattle.winners.specs.Offered.{AreSound, AreWhole, HaveLabels, IsBuilt, SomeGoalLacks}
use Rattle.winners.proofs.EachGoal.{none-lacks}
use Rattle.winners.proofs.Labelling.{labelled, stands}
use Rattle.winners.proofs.Lists.{some_inj, there}

-- goals that keep their numbers are no fewer
pub keeps_length : (old new : List Goal) → Keeps old new → length old ≤ length new
keeps_length [] new kept = omega arith
keeps_length (g ∷ old) new kept =
    let (goal, at) = there (g ∷ old) (length old) (omega arith) in
    let lt = slice_get_within new (length old) goal (kept (length old) goal at) in
    omega arith

index-map : (f : Goal → ℕ) (xs : List Goal) (i : ℕ) (x : Goal) → slice_get xs i ≡ Some x → slice_index (map f xs) i ≡ f x
index-map f [] i x e = absurd (cc)
index-map f (y ∷ xs) zero x e = ap f (some_inj y x e)
index-map f (y ∷ xs) (suc i) x e = index-map f xs i x e

module _ (by : Space) (L : Logged) (m : Met) (cards : List ℕ) (cols : ℕ → List ℕ) (tables : by.instances.now ≡ L.instances) (nodes_are : by.nodes.now ≡ m.nodes.list.items) (offers_are : by.offers.now ≡ m.offers.items)
    (rows_are : by.rows.now ≡ map (λ (g : Goal). rows_at cards g.class) m.goals.list.items) (rows_of : AreRows by.statistics.now L.instances L.log cards) (columns_are : cols ≡ columns_in L.instances L.log) where
  abbrev K : ℕ → List ℕ
  K = columns_in by.instances.now L.log

  cols_are : cols ≡ K
  cols_are = columns_are ∙ ap (λ ts. columns_in ts L.log) (sym tables)

  module _ (wanted : Goal) (met : IsMet L.instances L.log cols wanted m) where
    abbrev G : List Goal
    G = m.goals.list.items

    formed : AreGoals L.log K G
    formed = subst (λ k. AreGoals L.log k G) cols_are met.all.indexed.goals

    sound : AreSound by.instances.now L.log K G by.nodes.now by.offers.now
    sound =
        subst (λ os. AreSound by.instances.now L.log K G by.nodes.now os) (sym offers_are)
        (subst (λ ns. AreSound by.instances.now L.log K G ns m.offers.items) (sym nodes_are)
        (subst (λ k. AreSound by.instances.now L.log k G m.nodes.list.items m.offers.items) cols_are
        (subst (λ ts. AreSound ts L.log cols G m.nodes.list.items m.offers.items) (sym tables) met.all.sound)))

    whole : AreWhole by.instances.now L.log K G by.nodes.now by.offers.now (length G)
    whole =
        subst (λ os. AreWhole by.instances.now L.log K G by.nodes.now os (length G)) (sym offers_are)
        (subst (λ ns. AreWhole by.instances.now L.log K G ns m.offers.items (length G)) (sym nodes_are)
        (subst (λ k. AreWhole by.instances.now L.log k G m.nodes.list.items m.offers.items (length G)) cols_are
        (subst (λ ts. AreWhole ts L.log cols G m.nodes.list.items m.offers.items (length G)) (sym tables) met.all.whole)))

    collected-met : IsCollected by L G
    collected-met = record {
      tables = tables;
      formed = formed;
      distinct = met.all.indexed.distinct;
      offered = record {
        sound = sound;
        stand = λ i goal at. stands L.log K goal (formed i goal at);
        rows = λ i goal at.
            ap (λ xs. slice_index xs i) rows_are ∙ index-map (λ (g : Goal). rows_at cards g.class) G i goal at ∙ rows_of goal.class ∙ ap (λ ts. class_rows by.statistics.now ts L.log goal.class) (sym tables);
      };
      whole = whole;
      within = λ i o at.
          let own = sound i o at in
          let lt = slice_get_within G o.goal own.goal own.goal_is in
          let as_many : length by.rows.now ≡ length G = ap length rows_are ∙ length-map G (λ (g : Goal). rows_at cards g.class) in
          record {
            goal = lt;
            node = slice_get_within by.nodes.now o.node own.node own.node_is;
            rows = omega (arith, lt, as_many);
          };
    }

    pub collected : (goals : List Goal) → goals ≡ G → IsCollected by L goals
    collected goals are = subst (IsCollected by L) (sym are) collected-met

module _ (by : Space) (L : Logged) (goals : List Goal) (is : IsCollected by L goals) (cheapest : List (Option Cheapest)) (settled : AreSettled by cheapest 0) where
  -- the plan and the labels that are found
  pub least_labelled : (plans : List FoundPlan) (labels : List Label) (number : ℕ) (c : Cheapest) (p : Plan) → AreFound by plans cheapest → HaveLabels goals cheapest (length goals) labels → cheapest_of cheapest number ≡ Some c → IsBuilt by plans c.plan p
      → (root : Goal) → slice_get goals number ≡ Some (goal_of L.log root.class root.order) → Labelled by.statistics.now L.instances L.log root p labels × (c.estimate.cost ≡ plan_cost by.statistics.now L.instances L.log p)
  least_labelled plans labels number c p found have c_is built root root_is =
      subst (λ ts. Labelled by.statistics.now ts L.log root p labels × (c.estimate.cost ≡ plan_cost by.statistics.now ts L.log p)) is.tables
      (labelled by L.log goals plans cheapest labels is.offered is.formed is.distinct is.whole found settled have root number c p root_is c_is built)

  -- each goal has a plan
  pub never-lacks : Replays L.instances L.own L.log → SomeGoalLacks goals cheapest → ⊥
  never-lacks replays = none-lacks by L.own L.log goals cheapest (subst (λ ts. Replays ts L.own L.log) (sym is.tables) replays) is.offered is.formed is.whole settled
