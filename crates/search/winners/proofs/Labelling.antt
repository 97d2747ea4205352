-- Labels of all goals that were met, with the costs of their cheapest plans.
use Rattle.std.proofs.Common.{◌≡◌, refl, ap, sym, ◌∙◌, subst, ℕ, zero, suc, ◌+◌, ◌<◌, ◌≤◌, Bool, true, false, not, ◌==◌, ◌&&◌, ◌||◌, if◌then◌else◌, List, [], ◌∷◌, ◌++◌, length, length-append, slice_get, slice_index, option_map, Option, Some, None, arith, ⊎_elim}
use Rattle.std.specs.List.{AllByRecursion, list_all, list_any}
use Rattle.std.specs.Coded.{coded_list}
use Rattle.std.proofs.lemmas.Bool.{and_parts, eqb-true, eq-eqb, le-leb}
use Rattle.std.proofs.lemmas.Option.{slice_get_within}
use Rattle.algebra.proofs.Same.{tested}
use Rattle.derivation.specs.Logs.{Log, founds, least}
use Rattle.physical.specs.declared.plan.OrderKey.{OrderKey}
use Rattle.physical.specs.contracts.plan.OrderKey as order_key
use Rattle.physical.specs.declared.plan.Node.{Node}
use Rattle.physical.specs.declared.plan.Plan.{Plan}
use Rattle.physical.specs.Orders.{are_columns}
use Rattle.physical.specs.RequiredOrders.{same_order}
use Rattle.costs.specs.declared.nodes.Estimate.{Estimate}
use Rattle.costs.specs.Cardinalities.{class_rows}
use Rattle.costs.specs.Costs.{inputs_of, node_cost, plan_cost}
use Rattle.labels.specs.declared.goal.Goal.{Goal}
use Rattle.labels.specs.declared.goal.Label.{Label}
use Rattle.labels.specs.Labels.{IsBound, Labelled, Labels, are_once, bounds, cost_of, estimates_of, is_at_least, is_bounded, with_estimate}
use Rattle.labels.specs.Offers.{are_different, goal_of, input_goals, is_goal, same_goal}
use Rattle.labels.specs.Plans.{Plans, columns_in}
use Rattle.labels.proofs.Least.{same_goal-equal}
use Rattle.winners.specs.declared.space.Offer.{Offer}
use Rattle.winners.specs.declared.space.Space.{Space}
use Rattle.winners.specs.declared.found.FoundPlan.{FoundPlan}
use Rattle.winners.specs.declared.found.Cheapest.{Cheapest}
use Rattle.winners.specs.Found.{AreCheapest, AreFound, AreSettled, cheapest_of, estimates, offer_estimate, plan_goal}
use Rattle.winners.specs.Numbers.{AreDistinct, AreGoals, AreNumbers}
use Rattle.winners.specs.Offered.{AreOffered, AreWhole, HaveLabels, IsBuilt}
use Rattle.winners.proofs.Lists.{get-append, get-last, lt_cases, same_read, some_inj}

-- ---- lists by their places

all_by : {A : Type 0} (P : A → Type 0) (xs : List A) → ((i : ℕ) (x : A) → slice_get xs i ≡ Some x → P x) → AllByRecursion P xs
all_by P [] h = tt
all_by P (x ∷ xs) h = (h 0 x refl, all_by P xs (λ i y e. h (suc i) y e))

pub list_all_by : {A : Type 0} (p : A → Bool) (xs : List A) → ((i : ℕ) (x : A) → slice_get xs i ≡ Some x → p x ≡ true) → list_all p xs ≡ true
list_all_by p [] h = refl
list_all_by p (x ∷ xs) h = ap (λ b. b && list_all p xs) (h 0 x refl) ∙ list_all_by p xs (λ i y e. h (suc i) y e)

none_by : {A : Type 0} (p : A → Bool) (xs : List A) → ((i : ℕ) (x : A) → slice_get xs i ≡ Some x → p x ≡ true → ⊥) → list_any p xs ≡ false
none_by p [] h = refl
none_by p (x ∷ xs) h = by (p x) refl (none_by p xs (λ i y f. h (suc i) y f))
  where
    by : (b : Bool) → p x ≡ b → list_any p xs ≡ false → (p x || list_any p xs) ≡ false
    by true e later = absurd (h 0 x refl e)
    by false e later = ap (λ b. b || list_any p xs) e ∙ later

any_at : {A : Type 0} (p : A → Bool) (xs : List A) (i : ℕ) (x : A) → slice_get xs i ≡ Some x → p x ≡ true → list_any p xs ≡ true
any_at p [] i x e is = absurd (cc)
any_at p (y ∷ xs) zero x e is = ap (λ b. b || list_any p xs) (ap p (some_inj y x e) ∙ is)
any_at p (y ∷ xs) (suc i) x e is = by (p y) (any_at p xs i x e is)
  where
    by : (b : Bool) → list_any p xs ≡ true → (b || list_any p xs) ≡ true
    by true later = refl
    by false later = later

-- ---- goals

pub same_order-refl : (order : List OrderKey) → same_order order order ≡ true
unfolding same_order
same_order-refl order = sym (tested (coded_list order_key.the_row.coded) true order order (λ e. refl, λ e. refl))

pub same_goal-refl : (goal : Goal) → same_goal goal goal ≡ true
same_goal-refl goal = ap (λ b. b && same_order goal.order goal.order) (eq-eqb goal.class goal.class refl) ∙ same_order-refl goal.order

pub stands : (E : Log) (cols : ℕ → List ℕ) (goal : Goal) → is_goal E cols goal ≡ true → least E goal.class ≡ goal.class
stands E cols goal e =
    let own = and_parts (founds E goal.class && (least E goal.class == goal.class)) (are_columns (cols goal.class) goal.order && are_different goal.order) e in
    eqb-true (least E goal.class) goal.class (and_parts (founds E goal.class) (least E goal.class == goal.class) own.0).1

-- ---- one label for each goal

pub once_by : (labels : Labels) → ((i j : ℕ) (k l : Label) → slice_get labels i ≡ Some k → slice_get labels j ≡ Some l → same_goal k.goal l.goal ≡ true → i ≡ j) → are_once labels ≡ true
once_by [] h = refl
once_by (l ∷ labels) h =
    let none : list_any (λ k. same_goal k.goal l.goal) labels ≡ false = none_by (λ (k : Label). same_goal k.goal l.goal) labels (λ i k e same. let places = h (suc i) 0 k l e refl same in omega (arith, places)) in
    ap (λ b. not b && are_once labels) none ∙ once_by labels (λ i j k m e f same. let places = h (suc i) (suc j) k m e f same in omega (arith, places))

pub cost_at : (labels : Labels) (i : ℕ) (l : Label) → are_once labels ≡ true → slice_get labels i ≡ Some l → cost_of labels l.goal ≡ Some l.cost
cost_at [] i l once e = absurd (cc)
cost_at (k ∷ labels) zero l once e =
    let same : k ≡ l = some_inj k l e in
    subst (λ (m : Label). cost_of (k ∷ labels) m.goal ≡ Some m.cost) same (ap (λ b. if b then Some k.cost else cost_of labels k.goal) (same_goal-refl k.goal))
cost_at (k ∷ labels) (suc i) l once e = by (same_goal k.goal l.goal) refl (cost_at labels i l parts.1 e)
  where
    parts : (not (list_any (λ j. same_goal j.goal k.goal) labels) ≡ true) × (are_once labels ≡ true)
    parts = and_parts (not (list_any (λ j. same_goal j.goal k.goal) labels)) (are_once labels) once

    by : (b : Bool) → same_goal k.goal l.goal ≡ b → cost_of labels l.goal ≡ Some l.cost → (if same_goal k.goal l.goal then Some k.cost else cost_of labels l.goal) ≡ Some l.cost
    by true same later =
        let goals : l.goal ≡ k.goal = sym (same_goal-equal k.goal l.goal same) in
        let again : same_goal l.goal k.goal ≡ true = subst (λ g. same_goal l.goal g ≡ true) goals (same_goal-refl l.goal) in
        let there : list_any (λ (j : Label). same_goal j.goal k.goal) labels ≡ true = any_at (λ (j : Label). same_goal j.goal k.goal) labels i l e again in
        let never : false ≡ true = ap not (sym there) ∙ parts.0 in
        absurd (cc)
    by false other later = ap (λ b. if b then Some k.cost else cost_of labels l.goal) other ∙ later

pub labels_more : (goals : List Goal) (cheapest : List (Option Cheapest)) (n : ℕ) (labels more : Labels) (goal : Goal) (c : Cheapest) → HaveLabels goals cheapest n labels
    → slice_get goals n ≡ Some goal → cheapest_of cheapest n ≡ Some c → more ≡ labels ++ record { goal = goal; cost = c.estimate.cost } ∷ [] → HaveLabels goals cheapest (n + 1) more
labels_more goals cheapest n labels more goal c have at found news =
    let l : Label = record { goal = goal; cost = c.estimate.cost } in
    record {
      length_ = ap length news ∙ length-append labels (l ∷ []) ∙ ap (λ k. k + 1) have.length_;
      each = λ i lt. ⊎_elim
          (λ below.
          let own = have.each i below in
          record {
            goal = own.goal;
            found = own.found;
            goal_is = own.goal_is;
            found_is = own.found_is;
            label_is = ap (λ ls. slice_get ls i) news ∙ get-append labels (l ∷ []) i _ own.label_is;
          })
          (λ same. record {
            goal = goal;
            found = c;
            goal_is = ap (slice_get goals) same ∙ at;
            found_is = ap (cheapest_of cheapest) same ∙ found;
            label_is = ap (λ ls. slice_get ls i) news ∙ ap (slice_get (labels ++ l ∷ [])) (same ∙ sym have.length_) ∙ get-last labels l;
          })
          (lt_cases i n lt);
    }

pub no_labels : (goals : List Goal) (cheapest : List (Option Cheapest)) (labels : Labels) → labels ≡ [] → HaveLabels goals cheapest 0 labels
no_labels goals cheapest labels e = record { length_ = ap length e; each = λ i lt. absurd (omega (arith, lt)) }

-- ---- all of them

module _ (by : Space) (E : Log) (goals : List Goal) (plans : List FoundPlan) (cheapest : List (Option Cheapest)) (labels : Labels)
    (offered : AreOffered by E goals) (formed : AreGoals E (columns_in by.instances.now E) goals) (distinct : AreDistinct goals)
    (whole : AreWhole by.instances.now E (columns_in by.instances.now E) goals by.nodes.now by.offers.now (length goals))
    (found : AreFound by plans cheapest) (settled : AreSettled by cheapest 0) (have : HaveLabels goals cheapest (length goals) labels) where
  abbrev rows : ℕ → ℕ
  rows = class_rows by.statistics.now by.instances.now E

  abbrev label_for : Goal → Cheapest → Label
  label_for goal c = record { goal = goal; cost = c.estimate.cost }

  label_of : (i : ℕ) (goal : Goal) → slice_get goals i ≡ Some goal → (c : Cheapest) × (cheapest_of cheapest i ≡ Some c) × (slice_get labels i ≡ Some (label_for goal c))
  label_of i goal at =
      let own = have.each i (slice_get_within goals i goal at) in
      let same = same_read (slice_get goals i) own.goal goal own.goal_is at in
      (own.found, own.found_is, own.label_is ∙ ap (λ g. Some (label_for g own.found)) same)

  -- a label is that of the goal of its number
  of_label : (i : ℕ) (l : Label) → slice_get labels i ≡ Some l → (goal : Goal) × (c : Cheapest) × (slice_get goals i ≡ Some goal) × (cheapest_of cheapest i ≡ Some c) × (l ≡ label_for goal c)
  of_label i l at =
      let own = have.each i (subst (λ n. i < n) have.length_ (slice_get_within labels i l at)) in
      (own.goal, own.found, own.goal_is, own.found_is, same_read (slice_get labels i) l (label_for own.goal own.found) at own.label_is)

  pub once : are_once labels ≡ true
  once = once_by labels (λ i j k l e f same.
      let (g, c, g_is, c_is, k_is) = of_label i k e in
      let (h, d, h_is, d_is, l_is) = of_label j l f in
      let goals_are : same_goal g h ≡ true = subst (λ (m : Label). same_goal g m.goal ≡ true) l_is (subst (λ (m : Label). same_goal m.goal l.goal ≡ true) k_is same) in
      distinct i j g h g_is h_is goals_are)

  cost_of_goal : (i : ℕ) (goal : Goal) (c : Cheapest) → slice_get goals i ≡ Some goal → cheapest_of cheapest i ≡ Some c → cost_of labels goal ≡ Some c.estimate.cost
  cost_of_goal i goal c at c_is =
      let (d, d_is, label_is) = label_of i goal at in
      let same = same_read (cheapest_of cheapest i) d c d_is c_is in
      cost_at labels i (label_for goal d) once label_is ∙ ap (λ (x : Cheapest). Some x.estimate.cost) same

  -- the cheapest plan of a goal has the rows of its class
  rows_of_cheapest : (i : ℕ) (goal : Goal) (c : Cheapest) → slice_get goals i ≡ Some goal → cheapest_of cheapest i ≡ Some c → c.estimate.rows ≡ rows goal.class
  rows_of_cheapest i goal c at c_is =
      let own = found.each i c c_is in
      let plan = found.plans c.plan own.plan own.plan_is in
      let number : plan.offer.goal ≡ i = some_inj plan.offer.goal i (sym (ap (option_map (λ (o : Offer). o.goal)) plan.offer_is) ∙ own.goal_is) in
      ap (λ (e : Estimate). e.rows) (sym own.estimate_is ∙ plan.estimate_is) ∙ ap (slice_index by.rows.now) number ∙ offered.rows i goal at

  pub input_estimates : (numbers : List ℕ) (inputs : List Goal) → AreNumbers goals numbers inputs → (cs : List Cheapest) × AreCheapest cheapest numbers cs × (estimates_of rows labels inputs ≡ Some (estimates cs))
  input_estimates [] [] h = ([], tt, refl)
  input_estimates [] (g ∷ inputs) h = absurd h
  input_estimates (i ∷ numbers) [] h = absurd h
  input_estimates (i ∷ numbers) (g ∷ inputs) h =
      let (cs, are, is) = input_estimates numbers inputs h.1 in
      let (c, c_is, label_is) = label_of i g h.0 in
      let own : record { rows = rows g.class; cost = c.estimate.cost } ≡ c.estimate = ap (λ n. record { rows = n; cost = c.estimate.cost }) (sym (rows_of_cheapest i g c h.0 c_is)) in (
        c ∷ cs,
        (c_is, are),
        ap (λ cost. with_estimate g rows cost (estimates_of rows labels inputs)) (cost_of_goal i g c h.0 c_is)
            ∙ ap (with_estimate g rows (Some c.estimate.cost)) is ∙ ap (λ e. Some (e ∷ estimates cs)) own,
      )

  -- a node that is offered costs, over the labels of its inputs, no less than its goal's label
  bounded : (i : ℕ) (goal : Goal) (c : Cheapest) → slice_get goals i ≡ Some goal → cheapest_of cheapest i ≡ Some c → (k : ℕ) (o : Offer) (node : Node) → slice_get by.offers.now k ≡ Some o → o.goal ≡ i
      → slice_get by.nodes.now o.node ≡ Some node → bounds by.statistics.now by.instances.now E (columns_in by.instances.now E) rows labels (label_for goal c) node ≡ true
  bounded i goal c at c_is k o node o_is number node_is =
      let sound = offered.sound k o o_is in
      let goal_at : slice_get goals i ≡ Some sound.goal = ap (slice_get goals) (sym number) ∙ sound.goal_is in
      let goals_are = same_read (slice_get goals i) sound.goal goal goal_at at in
      let nodes_are = same_read (slice_get by.nodes.now o.node) sound.node node sound.node_is node_is in
      let wants : input_goals by.instances.now E (columns_in by.instances.now E) goal node ≡ Some sound.inputs =
      subst (λ n. input_goals by.instances.now E (columns_in by.instances.now E) goal n ≡ Some sound.inputs) nodes_are
      (subst (λ g. input_goals by.instances.now E (columns_in by.instances.now E) g sound.node ≡ Some sound.inputs) goals_are sound.offered) in
      let (cs, are, is) = input_estimates o.inputs sound.inputs sound.inputs_are in
      let (d, d_is, le) = settled k o (omega arith) o_is node node_is cs are in
      let same = same_read (cheapest_of cheapest i) d c (ap (cheapest_of cheapest) (sym number) ∙ d_is) c_is in
      let own_rows : slice_index by.rows.now o.goal ≡ rows goal.class = ap (slice_index by.rows.now) number ∙ offered.rows i goal at in
      let cost = node_cost by.statistics.now by.instances.now node (rows goal.class) (inputs_of (estimates cs)) in
      let le_cost : c.estimate.cost ≤ cost =
      subst (λ n. c.estimate.cost ≤ node_cost by.statistics.now by.instances.now node n (inputs_of (estimates cs))) own_rows (subst (λ (x : Cheapest). x.estimate.cost ≤ (offer_estimate by o node (estimates cs)).cost) same le) in
      ap (is_bounded by.statistics.now by.instances.now rows labels (label_for goal c) node) wants
      ∙ ap (λ known. is_at_least c.estimate.cost (option_map (λ xs. node_cost by.statistics.now by.instances.now node (rows goal.class) (inputs_of xs)) known)) is ∙ le-leb c.estimate.cost cost le_cost

  pub bound : (i : ℕ) (l : Label) → slice_get labels i ≡ Some l → IsBound by.statistics.now by.instances.now E labels l
  bound i l at =
      let (goal, c, goal_is, c_is, l_is) = of_label i l at in
      let lt = slice_get_within goals i goal goal_is in
      subst (IsBound by.statistics.now by.instances.now E labels) (sym l_is) (λ node. by_offer goal c goal_is c_is lt node (input_goals by.instances.now E (columns_in by.instances.now E) goal node) refl)
    where
      by_offer : (goal : Goal) (c : Cheapest) → slice_get goals i ≡ Some goal → cheapest_of cheapest i ≡ Some c → i < length goals → (node : Node) (found_ : Option (List Goal)) → input_goals by.instances.now E (columns_in by.instances.now E) goal node ≡ found_
          → bounds by.statistics.now by.instances.now E (columns_in by.instances.now E) rows labels (label_for goal c) node ≡ true
      by_offer goal c goal_is c_is lt node None is = ap (is_bounded by.statistics.now by.instances.now rows labels (label_for goal c) node) is
      by_offer goal c goal_is c_is lt node (Some inputs) is =
          whole i lt goal goal_is (bounds by.statistics.now by.instances.now E (columns_in by.instances.now E) rows labels (label_for goal c)) (bounded i goal c goal_is c_is) node inputs is

  pub labelled : (root : Goal) (first : ℕ) (c : Cheapest) (p : Plan) → slice_get goals first ≡ Some (goal_of E root.class root.order) → cheapest_of cheapest first ≡ Some c → IsBuilt by plans c.plan p
      → Labelled by.statistics.now by.instances.now E root p labels × (c.estimate.cost ≡ plan_cost by.statistics.now by.instances.now E p)
  labelled root first c p root_is c_is built =
      let own = found.each first c c_is in
      let is = built E goals offered in
      let plans_are = same_read (slice_get plans c.plan) is.plan own.plan is.plan_is own.plan_is in
      let number : is.goal_number ≡ first = same_read (plan_goal by.offers.now own.plan) is.goal_number first (subst (λ x. plan_goal by.offers.now x ≡ Some is.goal_number) plans_are is.number_is) own.goal_is in
      let goals_are : is.goal ≡ goal_of E root.class root.order = same_read (slice_get goals first) is.goal (goal_of E root.class root.order) (ap (slice_get goals) (sym number) ∙ is.goal_is) root_is in
      let cost : c.estimate.cost ≡ plan_cost by.statistics.now by.instances.now E p =
      ap (λ (e : Estimate). e.cost) (sym own.estimate_is ∙ ap (λ (x : FoundPlan). x.estimate) (sym plans_are) ∙ sym is.estimate_is) in (
        record {
          offered = subst (λ g. Plans by.instances.now E g p) goals_are is.offered;
          goals = list_all_by (λ (l : Label). is_goal E (columns_in by.instances.now E) l.goal) labels (λ i l at.
              let (goal, d, goal_is, d_is, l_is) = of_label i l at in
              ap (λ (m : Label). is_goal E (columns_in by.instances.now E) m.goal) l_is ∙ formed i goal goal_is);
          once = once;
          root_ = cost_of_goal first (goal_of E root.class root.order) c root_is c_is ∙ ap (λ n. Some n) cost;
          bound = all_by (IsBound by.statistics.now by.instances.now E labels) labels bound;
        },
        cost,
      )
