-- Plans of numbers, and what they cost.
use Rattle.std.proofs.Common.{◌≡◌, refl, ap, sym, ◌∙◌, subst, ℕ, ◌<◌, Bool, true, false, ◌&&◌, if◌then◌else◌, List, [], ◌∷◌, map, slice_get, slice_index, option_map, Option, Some, None}
use Rattle.std.specs.List.{AllZip}
use Rattle.std.proofs.lemmas.Bool.{eqb-true}
use Rattle.query.specs.declared.query.TableInstance.{TableInstance}
use Rattle.rules.specs.Matches as matches
use Rattle.derivation.specs.Logs.{Log, are_same, knowledge, least, member, or_class}
use Rattle.physical.specs.declared.plan.Operator.{Operator}
use Rattle.physical.specs.declared.plan.Node.{Node}
use Rattle.physical.specs.declared.plan.Node.TheVariants.{Implements, Sort}
use Rattle.physical.specs.declared.plan.Plan.{Plan, roll-Plan, fold-roll-Plan}
use Rattle.physical.specs.declared.plan.Plan.TheOpen.{Plan-F}
use Rattle.statistics.specs.declared.counts.Statistics.{Statistics}
use Rattle.costs.specs.declared.nodes.Estimate.{Estimate}
use Rattle.costs.specs.Cardinalities.{class_rows, own_rows}
use Rattle.costs.specs.Costs.{estimate_layer, inputs_of, node_cost, node_rows, plan_estimate}
use Rattle.labels.specs.declared.goal.Goal.{Goal}
use Rattle.labels.specs.Offers.{goal_of, input_goals, member_goals, operator_goals, where_so}
use Rattle.labels.specs.Plans.{are_for, are_for_some, columns_in, is_offered, offered_layer}
use Rattle.winners.specs.declared.space.Offer.{Offer}
use Rattle.winners.specs.declared.space.Space.{Space}
use Rattle.winners.specs.declared.found.FoundPlan.{FoundPlan}
use Rattle.winners.specs.Found.{offer_estimate, plan_goal, IsPlan}
use Rattle.winners.specs.Offered.{AreOffered, IsPlanFor}
use Rattle.winners.proofs.Lists.{same_read, zip_join}

-- ---- rows of a node

module _ (S : Statistics) (instances : List TableInstance) (E : Log) where
  abbrev rows_in : ℕ → ℕ
  rows_in = class_rows S instances E

  same-rows : (a b : ℕ) → least E a ≡ least E b → rows_in a ≡ rows_in b
  same-rows a b same = ap (λ k. own_rows S instances (knowledge instances E) E k []) same

  member-rows : (goal : Goal) (line : ℕ) (o : Operator) (found : Option matches.Line) (goals : List Goal) → member_goals instances E (columns_in instances E) goal line o found ≡ Some goals
      → rows_in (or_class line found) ≡ rows_in goal.class
  member-rows goal line o None goals e = absurd (cc)
  member-rows goal line o (Some l) goals e = by (are_same E l.class goal.class) refl e
    where
      by : (b : Bool) → are_same E l.class goal.class ≡ b → (if b then operator_goals instances E (columns_in instances E) goal.order line o l.expr else None) ≡ Some goals → rows_in l.class ≡ rows_in goal.class
      by true same h = same-rows l.class goal.class (eqb-true (least E l.class) (least E goal.class) same)
      by false other h = absurd (cc)

  -- estimates for goals have the rows of their classes
  abbrev pub HaveRows : List Estimate → List Goal → Type 0
  HaveRows = AllZip (λ x goal. x.rows ≡ rows_in goal.class)

  sort-rows : (goal : Goal) (b : Bool) (goals : List Goal) (xs : List Estimate) → least E goal.class ≡ goal.class → where_so b (goal_of E goal.class [] ∷ []) ≡ Some goals → HaveRows xs goals
      → (inputs_of xs).first.rows ≡ rows_in goal.class
  sort-rows goal false goals xs stands e have = absurd (cc)
  sort-rows goal true goals xs stands e have = first xs (subst (HaveRows xs) (same_read (Some goals) goals (goal_of E goal.class [] ∷ []) refl (sym e)) have)
    where
      first : (xs : List Estimate) → HaveRows xs (goal_of E goal.class [] ∷ []) → (inputs_of xs).first.rows ≡ rows_in goal.class
      first [] h = absurd h
      first (x ∷ xs) h = h.0 ∙ ap rows_in stands

  pub rows_are : (goal : Goal) (node : Node) (goals : List Goal) (xs : List Estimate) → least E goal.class ≡ goal.class → input_goals instances E (columns_in instances E) goal node ≡ Some goals → HaveRows xs goals
      → node_rows rows_in E node (inputs_of xs) ≡ rows_in goal.class
  rows_are goal (Implements line o) goals xs stands e have = member-rows goal line o (member E line) goals e
  rows_are goal (Sort keys) goals xs stands e have = sort-rows goal _ goals xs stands e have

-- ---- a plan over plans

module _ (by : Space) (E : Log) (goals : List Goal) (offered : AreOffered by E goals) where
  abbrev rows : ℕ → ℕ
  rows = class_rows by.statistics.now by.instances.now E

  abbrev estimate : Plan → Estimate
  estimate = plan_estimate by.statistics.now by.instances.now rows E

  abbrev is_for : Plan → Goal → Bool
  is_for = is_offered by.instances.now E (columns_in by.instances.now E)

  -- a plan for the goal of a found plan
  pub record IsInput (x : FoundPlan) (p : Plan) : Type 0 where
    pub goal : Goal
    pub goal_number : ℕ
    pub number_is : plan_goal by.offers.now x ≡ Some goal_number
    pub goal_is : slice_get goals goal_number ≡ Some goal
    pub offered_ : is_for p goal ≡ true
    pub rows_ : x.estimate.rows ≡ rows goal.class
    pub estimate_ : estimate p ≡ x.estimate

  pub record IsOfGoal (x : FoundPlan) (goal : Goal) : Type 0 where
    pub goal_number : ℕ
    pub number_is : plan_goal by.offers.now x ≡ Some goal_number
    pub goal_is : slice_get goals goal_number ≡ Some goal

  abbrev IsInputFor : Plan → Goal → Type 0
  IsInputFor p goal = (is_for p goal ≡ true) × ((estimate p).rows ≡ rows goal.class)

  input_of : (found : List FoundPlan) (n k : ℕ) (x : FoundPlan) (p : Plan) → (k < n) × (slice_get found k ≡ Some x) → IsPlanFor by E goals found k p → IsInput x p
  input_of found n k x p h is = subst (λ y. IsInput y p) (same_read (slice_get found k) is.plan x is.plan_is h.1) (record {
    goal = is.goal;
    goal_number = is.goal_number;
    number_is = is.number_is;
    goal_is = is.goal_is;
    offered_ = is.offered;
    rows_ = is.rows_are;
    estimate_ = is.estimate_is;
  })

  input_for : (x : FoundPlan) (p : Plan) (goal : Goal) → IsInput x p → IsOfGoal x goal → IsInputFor p goal
  input_for x p goal is of =
      let numbers = same_read (plan_goal by.offers.now x) is.goal_number of.goal_number is.number_is of.number_is in
      let same = same_read (slice_get goals of.goal_number) is.goal goal (subst (λ i. slice_get goals i ≡ Some is.goal) numbers is.goal_is) of.goal_is in
      subst (IsInputFor p) same (is.offered_, ap (λ (e : Estimate). e.rows) is.estimate_ ∙ is.rows_)

  all_for : (ps : List Plan) (gs : List Goal) → AllZip IsInputFor ps gs → are_for (map is_for ps) gs ≡ true
  all_for [] [] h = refl
  all_for [] (g ∷ gs) h = absurd h
  all_for (p ∷ ps) [] h = absurd h
  all_for (p ∷ ps) (g ∷ gs) h = ap (λ b. b && are_for (map is_for ps) gs) h.0.0 ∙ all_for ps gs h.1

  all_rows : (ps : List Plan) (gs : List Goal) → AllZip IsInputFor ps gs → HaveRows by.statistics.now by.instances.now E (map estimate ps) gs
  all_rows [] [] h = tt
  all_rows [] (g ∷ gs) h = absurd h
  all_rows (p ∷ ps) [] h = absurd h
  all_rows (p ∷ ps) (g ∷ gs) h = (h.0.1, all_rows ps gs h.1)

  all_estimates : (xs : List FoundPlan) (ps : List Plan) → AllZip IsInput xs ps → map estimate ps ≡ map (λ x. x.estimate) xs
  all_estimates [] [] h = refl
  all_estimates [] (p ∷ ps) h = absurd h
  all_estimates (x ∷ xs) [] h = absurd h
  all_estimates (x ∷ xs) (p ∷ ps) h = ap (λ e. e ∷ map estimate ps) h.0.estimate_ ∙ ap (λ es. x.estimate ∷ es) (all_estimates xs ps h.1)

  pub built : (found : List FoundPlan) (number : ℕ) (x : FoundPlan) (node : Node) (ps : List Plan) (is : IsPlan by found number x) → slice_get found number ≡ Some x → slice_get by.nodes.now is.offer.node ≡ Some node
      → AllZip (IsPlanFor by E goals found) x.inputs ps → IsPlanFor by E goals found number (roll-Plan (record { node = node; inputs = ps }))
  unfolding is_offered plan_estimate
  built found number x node ps is at node_at all =
      let z : Plan-F Plan = record { node = node; inputs = ps } in
      let sound = offered.sound x.offer is.offer is.offer_is in
      let nodes = same_read (slice_get by.nodes.now is.offer.node) sound.node node sound.node_is node_at in
      let own = same_read (slice_get by.nodes.now is.offer.node) is.node node is.node_is node_at in
      let wants = subst (λ n. input_goals by.instances.now E (columns_in by.instances.now E) sound.goal n ≡ Some sound.inputs) nodes sound.offered in
      let inputs = zip_join _ _ IsInput (input_of found number) x.inputs is.below ps is.older all in
      let of_goals = zip_join _ _ IsOfGoal (λ i y g number_ goal_. record { goal_number = i; number_is = number_; goal_is = goal_ }) is.offer.inputs is.below sound.inputs is.goals sound.inputs_are in
      let for = zip_join _ _ IsInputFor (input_for) is.below ps sound.inputs inputs of_goals in
      let stands = offered.stand is.offer.goal sound.goal sound.goal_is in
      let n = slice_index by.rows.now is.offer.goal in
      let classes : n ≡ rows sound.goal.class = offered.rows is.offer.goal sound.goal sound.goal_is in
      let given = rows_are by.statistics.now by.instances.now E sound.goal node sound.inputs (map estimate ps) stands wants (all_rows ps sound.inputs for) in
      let estimates = all_estimates is.below ps inputs in
      let cost : Estimate → ℕ → Estimate = λ e m. record { rows = m; cost = e.cost } in
      let layer : estimate_layer by.statistics.now by.instances.now rows E (record { node = node; inputs = map estimate ps }) ≡ x.estimate =
      ap (λ m. record { rows = m; cost = node_cost by.statistics.now by.instances.now node m (inputs_of (map estimate ps)) }) (given ∙ sym classes)
      ∙ ap (λ es. offer_estimate by is.offer node es) estimates ∙ ap (λ m. offer_estimate by is.offer m (map (λ (y : FoundPlan). y.estimate) is.below)) (sym own) ∙ sym is.estimate_is in
      record {
        plan = x;
        goal = sound.goal;
        goal_number = is.offer.goal;
        plan_is = at;
        number_is = ap (option_map (λ (o : Offer). o.goal)) is.offer_is;
        goal_is = sound.goal_is;
        offered =
            ap (λ (f : Goal → Bool). f sound.goal) (fold-roll-Plan (Goal → Bool) (offered_layer by.instances.now E (columns_in by.instances.now E)) z)
            ∙ ap (are_for_some (map is_for ps)) wants ∙ all_for ps sound.inputs for;
        rows_are = ap (λ (e : Estimate). e.rows) is.estimate_is ∙ classes;
        estimate_is = fold-roll-Plan Estimate (estimate_layer by.statistics.now by.instances.now rows E) z ∙ layer;
      }
