-- A labelled plan is a cheapest one: label by label up a plan, no plan costs less than the label of its goal.
use Rattle.std.proofs.Common.{◌≡◌, refl, ap, sym, ◌∙◌, subst, ℕ, ◌≤◌, le_refl, le_trans, zero, suc, Bool, true, false, ◌==◌, ◌&&◌, if◌then◌else◌, List, [], ◌∷◌, map, drop, slice_get, option_map, Option, Some, None, arith}
use Rattle.std.specs.Coded.{coded_list}
use Rattle.std.specs.List.{AllByRecursion, list_all, sum_by}
use Rattle.std.proofs.lemmas.Bool.{and_parts, eqb-true, leb-true}
use Rattle.std.proofs.lemmas.List.Sums.{sum_by-cons}
use Rattle.algebra.proofs.Lists.{two}
use Rattle.algebra.proofs.Same.{same_by-equal}
use Rattle.query.specs.declared.query.TableInstance.{TableInstance}
use Rattle.rules.specs.Matches as matches
use Rattle.derivation.specs.Logs.{Log, are_same, founds, knowledge, least, member, or_class}
use Rattle.physical.specs.declared.plan.OrderKey.{OrderKey}
use Rattle.physical.specs.contracts.plan.OrderKey as order_key
use Rattle.physical.specs.declared.plan.Operator.{Operator}
use Rattle.physical.specs.declared.plan.Node.{Node}
use Rattle.physical.specs.declared.plan.Node.TheVariants.{Implements, Sort}
use Rattle.physical.specs.declared.plan.Plan.{Plan, roll-Plan, fold-roll-Plan, ind-Plan, map-Plan}
use Rattle.physical.specs.declared.plan.Plan.TheOpen.{Plan-F}
use Rattle.physical.specs.Orders.{are_columns}
use Rattle.physical.specs.RequiredOrders.{same_order}
use Rattle.statistics.specs.declared.counts.Statistics.{Statistics}
use Rattle.costs.specs.declared.nodes.Estimate.{Estimate}
use Rattle.costs.specs.Cardinalities.{class_rows, own_rows}
use Rattle.costs.specs.Costs.{estimate_layer, inputs_of, node_cost, node_rows, or_nothing, plan_cost, plan_estimate}
use Rattle.costs.specs.Laws.{IsCheaper}
use Rattle.costs.proofs.CheaperInputs.{nodes_are_monotone}
use Rattle.labels.specs.declared.goal.Goal.{Goal}
use Rattle.labels.specs.declared.goal.Label.{Label}
use Rattle.labels.specs.Offers.{goal_of, input_goals, is_goal, are_different, member_goals, operator_goals, same_goal, where_so}
use Rattle.labels.specs.Plans.{are_for, are_for_some, columns_in, is_offered, offered_layer}
use Rattle.labels.specs.Labels.{IsBound, Labels, LabelsShowLeast, cost_of, estimates_of, is_at_least, is_bounded, with_estimate}

-- ---- goals

pub same_order-equal : (a b : List OrderKey) → same_order a b ≡ true → a ≡ b
unfolding same_order
same_order-equal = same_by-equal (coded_list order_key.the_row.coded)

pub same_goal-equal : (a b : Goal) → same_goal a b ≡ true → a ≡ b
same_goal-equal a b e =
    let parts = and_parts (a.class == b.class) (same_order a.order b.order) e in
    two (λ class order. record { class = class; order = order }) (eqb-true a.class b.class parts.0) (same_order-equal a.order b.order parts.1)

-- ---- cheaper inputs

abbrev AreCheaper : List Estimate → List Estimate → Type 0
AreCheaper [] [] = Unit {0}
AreCheaper [] (y ∷ ys) = ⊥
AreCheaper (x ∷ xs) [] = ⊥
AreCheaper (x ∷ xs) (y ∷ ys) = (x.cost ≤ y.cost) × (x.rows ≡ y.rows) × AreCheaper xs ys

at-cheaper : (xs ys : List Estimate) (i : ℕ) → AreCheaper xs ys → ((or_nothing (slice_get xs i)).cost ≤ (or_nothing (slice_get ys i)).cost) × ((or_nothing (slice_get xs i)).rows ≡ (or_nothing (slice_get ys i)).rows)
at-cheaper [] [] i h = (le_refl _, refl)
at-cheaper [] (y ∷ ys) i h = absurd h
at-cheaper (x ∷ xs) [] i h = absurd h
at-cheaper (x ∷ xs) (y ∷ ys) zero h = (h.0, h.1)
at-cheaper (x ∷ xs) (y ∷ ys) (suc i) h = at-cheaper xs ys i h.2

sum-cheaper : (xs ys : List Estimate) → AreCheaper xs ys → sum_by (λ x. x.cost) xs ≤ sum_by (λ x. x.cost) ys
sum-cheaper [] [] h = le_refl _
sum-cheaper [] (y ∷ ys) h = absurd h
sum-cheaper (x ∷ xs) [] h = absurd h
sum-cheaper (x ∷ xs) (y ∷ ys) h = omega (arith, h.0, sum-cheaper xs ys h.2, sum_by-cons (λ (z : Estimate). z.cost) x xs, sum_by-cons (λ (z : Estimate). z.cost) y ys)

later-cheaper : (xs ys : List Estimate) → AreCheaper xs ys → sum_by (λ x. x.cost) (drop 1 xs) ≤ sum_by (λ x. x.cost) (drop 1 ys)
later-cheaper [] [] h = le_refl _
later-cheaper [] (y ∷ ys) h = absurd h
later-cheaper (x ∷ xs) [] h = absurd h
later-cheaper (x ∷ xs) (y ∷ ys) h = sum-cheaper xs ys h.2

inputs-cheaper : (xs ys : List Estimate) → AreCheaper xs ys → IsCheaper (inputs_of xs) (inputs_of ys)
inputs-cheaper xs ys h =
    let first_ = at-cheaper xs ys 0 h in
    let second_ = at-cheaper xs ys 1 h in
    record { first = first_.0; first_rows = first_.1; second = second_.0; second_rows = second_.1; later = later-cheaper xs ys h }

-- ---- estimates by labels

pub record HasEstimates (n : ℕ → ℕ) (labels : Labels) (goal : Goal) (goals : List Goal) (xs : List Estimate) : Type 0 where
  pub cost : ℕ
  pub others : List Estimate
  pub own : cost_of labels goal ≡ Some cost
  pub others_are : estimates_of n labels goals ≡ Some others
  pub all : xs ≡ record { rows = n goal.class; cost = cost } ∷ others

has-estimates : (n : ℕ → ℕ) (labels : Labels) (goal : Goal) (goals : List Goal) (xs : List Estimate) → estimates_of n labels (goal ∷ goals) ≡ Some xs → HasEstimates n labels goal goals xs
has-estimates n labels goal goals xs e = by (cost_of labels goal) (estimates_of n labels goals) refl refl e
  where
    by : (own : Option ℕ) (others : Option (List Estimate)) → cost_of labels goal ≡ own → estimates_of n labels goals ≡ others → with_estimate goal n own others ≡ Some xs → HasEstimates n labels goal goals xs
    by None others is are h = absurd (cc)
    by (Some c) None is are h = absurd (cc)
    by (Some c) (Some more) is are h = record { cost = c; others = more; own = is; others_are = are; all = cc }

-- ---- one label

pub record IsLabel (S : Statistics) (instances : List TableInstance) (E : Log) (labels : Labels) (goal : Goal) (cost : ℕ) : Type 0 where
  pub stands : least E goal.class ≡ goal.class
  pub bound : (node : Node) → is_bounded S instances (class_rows S instances E) labels (record { goal = goal; cost = cost }) node (input_goals instances E (columns_in instances E) goal node) ≡ true

module _ (S : Statistics) (instances : List TableInstance) (E : Log) (labels : Labels) where
  stands-for : (goal : Goal) → is_goal E (columns_in instances E) goal ≡ true → least E goal.class ≡ goal.class
  stands-for goal e =
      let own = and_parts (founds E goal.class && (least E goal.class == goal.class)) (are_columns (columns_in instances E goal.class) goal.order && are_different goal.order) e in
      let both = and_parts (founds E goal.class) (least E goal.class == goal.class) own.0 in
      eqb-true (least E goal.class) goal.class both.1

  of-label : (l : Label) → is_goal E (columns_in instances E) l.goal ≡ true → IsBound S instances E labels l → IsLabel S instances E labels l.goal l.cost
  of-label l is bound_ = record { stands = stands-for l.goal is; bound = bound_ }

  label-of : (some : Labels) (goal : Goal) (cost : ℕ) → list_all (λ l. is_goal E (columns_in instances E) l.goal) some ≡ true → AllByRecursion (IsBound S instances E labels) some
      → cost_of some goal ≡ Some cost → IsLabel S instances E labels goal cost
  label-of [] goal cost formed bound e = absurd (cc)
  label-of (l ∷ some) goal cost formed bound e = by (label-of some goal cost parts.1 bound.1) (same_goal l.goal goal) refl e
    where
      parts : (is_goal E (columns_in instances E) l.goal ≡ true) × (list_all (λ l. is_goal E (columns_in instances E) l.goal) some ≡ true)
      parts = and_parts (is_goal E (columns_in instances E) l.goal) (list_all (λ l. is_goal E (columns_in instances E) l.goal) some) formed

      by : (cost_of some goal ≡ Some cost → IsLabel S instances E labels goal cost) → (b : Bool) → same_goal l.goal goal ≡ b → (if b then Some l.cost else cost_of some goal) ≡ Some cost
          → IsLabel S instances E labels goal cost
      by later true same h =
          let cost_is : l.cost ≡ cost = cc in
          subst (λ c. IsLabel S instances E labels goal c) cost_is (subst (λ g. IsLabel S instances E labels g l.cost) (same_goal-equal l.goal goal same) (of-label l parts.0 bound.0))
      by later false other h = later h

-- ---- plans

module _ (S : Statistics) (instances : List TableInstance) (E : Log) (labels : Labels) (formed : list_all (λ l. is_goal E (columns_in instances E) l.goal) labels ≡ true)
    (bound : AllByRecursion (IsBound S instances E labels) labels) where
  abbrev rows_in : ℕ → ℕ
  rows_in = class_rows S instances E

  abbrev estimate : Plan → Estimate
  estimate = plan_estimate S instances rows_in E

  abbrev offered : Plan → Goal → Bool
  offered = is_offered instances E (columns_in instances E)

  -- an estimate for a goal: no less than so much, over the rows of its class
  abbrev IsNoLess : Goal → ℕ → Estimate → Type 0
  IsNoLess goal cost x = (cost ≤ x.cost) × (x.rows ≡ rows_in goal.class)

  abbrev IsAbove : Plan → Type 0
  IsAbove p = (goal : Goal) (cost : ℕ) → cost_of labels goal ≡ Some cost → offered p goal ≡ true → IsNoLess goal cost (estimate p)

  abbrev Part : Type 0
  Part = (p : Plan) × IsAbove p

  abbrev own_plan : Part → Plan
  own_plan p = p.0

  inputs-above : (parts : List Part) (goals : List Goal) (xs : List Estimate) → estimates_of rows_in labels goals ≡ Some xs → are_for (map offered (map own_plan parts)) goals ≡ true
      → AreCheaper xs (map estimate (map own_plan parts))
  inputs-above [] [] xs e h = let none : [] ≡ xs = cc in subst (λ zs. AreCheaper zs []) none tt
  inputs-above [] (goal ∷ goals) xs e h = absurd (cc)
  inputs-above (p ∷ parts) [] xs e h = absurd (cc)
  inputs-above (p ∷ parts) (goal ∷ goals) xs e h =
      let has = has-estimates rows_in labels goal goals xs e in
      let both = and_parts (offered p.0 goal) (are_for (map offered (map own_plan parts)) goals) h in
      let above = p.1 goal has.cost has.own both.0 in
      subst (λ zs. AreCheaper zs (estimate p.0 ∷ map estimate (map own_plan parts))) (sym has.all)
      (above.0, sym above.1, inputs-above parts goals has.others has.others_are both.1)

  -- the rows of classes that are the same
  same-rows : (a b : ℕ) → least E a ≡ least E b → rows_in a ≡ rows_in b
  same-rows a b same = ap (λ k. own_rows S instances (knowledge instances E) E k []) same

  member-rows : (goal : Goal) (line : ℕ) (o : Operator) (found : Option matches.Line) (goals : List Goal) → member_goals instances E (columns_in instances E) goal line o found ≡ Some goals
      → rows_in (or_class line found) ≡ rows_in goal.class
  member-rows goal line o None goals e = absurd (cc)
  member-rows goal line o (Some l) goals e = by (are_same E l.class goal.class) refl e
    where
      by : (b : Bool) → are_same E l.class goal.class ≡ b → (if b then operator_goals instances E (columns_in instances E) goal.order line o l.expr else None) ≡ Some goals → rows_in l.class ≡ rows_in goal.class
      by true same h = same-rows l.class goal.class (eqb-true (least E l.class) (least E goal.class) same)
      by false other h = absurd (cc)

  sort-rows : (goal : Goal) (b : Bool) (goals : List Goal) (xs ys : List Estimate) → least E goal.class ≡ goal.class → where_so b (goal_of E goal.class [] ∷ []) ≡ Some goals
      → estimates_of rows_in labels goals ≡ Some xs → AreCheaper xs ys → (inputs_of ys).first.rows ≡ rows_in goal.class
  sort-rows goal false goals xs ys stands e are cheaper = absurd (cc)
  sort-rows goal true goals xs ys stands e are cheaper =
      let input = goal_of E goal.class [] in
      let goals_are : goals ≡ input ∷ [] = cc in
      let has = has-estimates rows_in labels input [] xs (subst (λ gs. estimates_of rows_in labels gs ≡ Some xs) goals_are are) in
      let first_ = at-cheaper xs ys 0 cheaper in
      sym first_.1 ∙ ap (λ zs. (or_nothing (slice_get zs 0)).rows) has.all ∙ ap rows_in stands

  rows-are : (goal : Goal) (node : Node) (goals : List Goal) (xs ys : List Estimate) → least E goal.class ≡ goal.class → input_goals instances E (columns_in instances E) goal node ≡ Some goals
      → estimates_of rows_in labels goals ≡ Some xs → AreCheaper xs ys → node_rows rows_in E node (inputs_of ys) ≡ rows_in goal.class
  rows-are goal (Implements line o) goals xs ys stands e are cheaper = member-rows goal line o (member E line) goals e
  rows-are goal (Sort keys) goals xs ys stands e are cheaper = sort-rows goal _ goals xs ys stands e are cheaper

  -- a node over inputs no cheaper than their labels
  over-labels : (parts : List Part) (goal : Goal) (cost : ℕ) (node : Node) (goals : List Goal) → least E goal.class ≡ goal.class → input_goals instances E (columns_in instances E) goal node ≡ Some goals
      → is_at_least cost (option_map (λ inputs. node_cost S instances node (rows_in goal.class) (inputs_of inputs)) (estimates_of rows_in labels goals)) ≡ true
      → are_for (map offered (map own_plan parts)) goals ≡ true
      → IsNoLess goal cost (estimate_layer S instances rows_in E (record { node = node; inputs = map estimate (map own_plan parts) }))
  over-labels parts goal cost node goals stands e least_ are = by (estimates_of rows_in labels goals) refl least_
    where
      ys : List Estimate
      ys = map estimate (map own_plan parts)

      by : (found : Option (List Estimate)) → estimates_of rows_in labels goals ≡ found → is_at_least cost (option_map (λ inputs. node_cost S instances node (rows_in goal.class) (inputs_of inputs)) found) ≡ true
          → IsNoLess goal cost (estimate_layer S instances rows_in E (record { node = node; inputs = map estimate (map own_plan parts) }))
      by None is h = absurd (cc)
      by (Some xs) is h =
          let cheaper = inputs-above parts goals xs is are in
          let rows_ = rows-are goal node goals xs (map estimate (map own_plan parts)) stands e is cheaper in
          let lower : cost ≤ node_cost S instances node (rows_in goal.class) (inputs_of xs) = leb-true _ _ h in
          let upper = nodes_are_monotone S instances node (rows_in goal.class) (inputs_of xs) (inputs_of (map estimate (map own_plan parts))) (inputs-cheaper xs (map estimate (map own_plan parts)) cheaper) in
          (subst (λ rows. cost ≤ node_cost S instances node rows (inputs_of (map estimate (map own_plan parts)))) (sym rows_) (le_trans lower upper), rows_)

  node-above : (parts : List Part) (goal : Goal) (cost : ℕ) (node : Node) → cost_of labels goal ≡ Some cost
      → are_for_some (map offered (map own_plan parts)) (input_goals instances E (columns_in instances E) goal node) ≡ true
      → IsNoLess goal cost (estimate_layer S instances rows_in E (record { node = node; inputs = map estimate (map own_plan parts) }))
  node-above parts goal cost node labelled are =
      let label = label-of S instances E labels labels goal cost formed bound labelled in
      by (input_goals instances E (columns_in instances E) goal node) refl label.stands (label.bound node) are
    where
      by : (found : Option (List Goal)) → input_goals instances E (columns_in instances E) goal node ≡ found → least E goal.class ≡ goal.class
          → is_bounded S instances rows_in labels (record { goal = goal; cost = cost }) node found ≡ true → are_for_some (map offered (map own_plan parts)) found ≡ true
          → IsNoLess goal cost (estimate_layer S instances rows_in E (record { node = node; inputs = map estimate (map own_plan parts) }))
      by None is stands bound_ are_ = absurd (cc)
      by (Some goals) is stands bound_ are_ = over-labels parts goal cost node goals stands is bound_ are_

  step : (y : Plan-F Part) → IsAbove (roll-Plan (map-Plan Part Plan own_plan y))
  unfolding is_offered plan_estimate
  step y goal cost labelled is =
      let z : Plan-F Plan = map-Plan Part Plan own_plan y in
      let layers : offered_layer instances E (columns_in instances E) (record { node = y.node; inputs = map offered (map own_plan y.inputs) }) goal ≡ true
      = ap (λ f. f goal) (sym (fold-roll-Plan (Goal → Bool) (offered_layer instances E (columns_in instances E)) z)) ∙ is in
      subst (IsNoLess goal cost) (sym (fold-roll-Plan Estimate (estimate_layer S instances rows_in E) z)) (node-above y.inputs goal cost y.node labelled layers)

  pub plans-above : (p : Plan) → IsAbove p
  plans-above = ind-Plan IsAbove (λ x y is. subst (λ z. IsAbove (roll-Plan z)) is (step y))

pub labels_show_least : LabelsShowLeast
labels_show_least S instances E root p labels labelled q is =
    (plans-above S instances E labels labelled.goals labelled.bound q (goal_of E root.class root.order) (plan_cost S instances E p) labelled.root_ is).0
