-- When a plan is labelled, part by part.
use Rattle.std.proofs.Common.{◌≡◌, ap, sym, ◌∙◌, subst, ℕ, Bool, true, false, List, Option, Some}
use Rattle.std.specs.Prelude.{◌↔◌, IsTrue}
use Rattle.std.specs.List.{AllByRecursion, list_all}
use mathlib.Core.Path.{fun_ext}
use Rattle.algebra.proofs.Lists.{two}
use Rattle.algebra.specs.Columns.{columns_at}
use Rattle.logs.specs.Logged.{Logged}
use Rattle.physical.specs.declared.plan.Node.{Node}
use Rattle.physical.specs.declared.plan.Plan.{Plan}
use Rattle.statistics.specs.declared.counts.Statistics.{Statistics}
use Rattle.costs.specs.Cardinalities.{AreRows, class_rows, rows_at}
use Rattle.costs.specs.Costs.{plan_cost}
use Rattle.labels.specs.declared.goal.Goal.{Goal}
use Rattle.labels.specs.declared.offers.Derived.{Derived}
use Rattle.labels.specs.Labels.{Labelled, Labels, are_once, bounds, cost_of}
use Rattle.labels.specs.Offers.{goal_of, is_goal}
use Rattle.labels.specs.Plans.{columns_in, is_offered}

clash : (b : Bool) → b ≡ true → b ≡ false → ⊥
clash true so other = absurd (cc)
clash false so other = absurd (cc)

module _ (S : Statistics) (D : Derived) (L : Logged) (logs : D.log.now ≡ L) (are : columns_at D.columns.now ≡ columns_in L.instances L.log) (root : Goal) (p : Plan) (labels : Labels) where
  abbrev Shown : Type 0
  Shown = Labelled S L.instances L.log root p labels

  abbrev wanted : Goal
  wanted = goal_of L.log root.class root.order

  lost : (Shown → ⊥) → IsTrue false ↔ Shown
  lost never = (λ so. absurd (cc), λ shown. absurd (never shown))

  all-goals : (b : Bool) → b ≡ list_all (λ l. is_goal D.log.now.log (columns_at D.columns.now) l.goal) labels → b ≡ list_all (λ l. is_goal L.log (columns_in L.instances L.log) l.goal) labels
  all-goals b is = is ∙ two (λ (M : Logged) (cols : ℕ → List ℕ). list_all (λ l. is_goal M.log cols l.goal) labels) logs are

  offered-at : (goal : Goal) (b : Bool) → goal ≡ wanted → b ≡ is_offered D.log.now.instances D.log.now.log (columns_at D.columns.now) p goal → b ≡ is_offered L.instances L.log (columns_in L.instances L.log) p wanted
  offered-at goal b at is =
      is ∙ two (λ (M : Logged) (cols : ℕ → List ℕ). is_offered M.instances M.log cols p goal) logs are ∙ ap (λ (g : Goal). is_offered L.instances L.log (columns_in L.instances L.log) p g) at

  pub lost-goals : (b : Bool) → b ≡ list_all (λ l. is_goal D.log.now.log (columns_at D.columns.now) l.goal) labels → b ≡ false → IsTrue false ↔ Shown
  lost-goals b is other = lost (λ shown. clash b (all-goals b is ∙ shown.goals) other)

  pub lost-once : are_once labels ≡ false → IsTrue false ↔ Shown
  lost-once other = lost (λ shown. clash (are_once labels) shown.once other)

  pub lost-plan : (goal : Goal) (b : Bool) → goal ≡ wanted → b ≡ is_offered D.log.now.instances D.log.now.log (columns_at D.columns.now) p goal → b ≡ false → IsTrue false ↔ Shown
  lost-plan goal b at is other = lost (λ shown. clash b (offered-at goal b at is ∙ shown.offered) other)

  pub lost-cost : (goal : Goal) (found : Option ℕ) (cost : ℕ) → goal ≡ wanted → found ≡ cost_of labels goal → cost ≡ plan_cost S L.instances L.log p → (found ≡ Some cost → ⊥) → IsTrue false ↔ Shown
  lost-cost goal found cost at is costs other = lost (λ shown. other (is ∙ ap (cost_of labels) at ∙ shown.root_ ∙ ap (λ n. Some n) (sym costs)))

  -- ---- all parts

  abbrev Bound : Logged → (ℕ → List ℕ) → (ℕ → ℕ) → Type 0
  Bound M cols n = AllByRecursion (λ l. (node : Node) → bounds S M.instances M.log cols n labels l node ≡ true) labels

  module _ (rows : List ℕ) (rows-are : AreRows S L.instances L.log rows) where
    same-rows : rows_at rows ≡ class_rows S L.instances L.log
    same-rows = fun_ext rows-are

    to-bound : Bound D.log.now (columns_at D.columns.now) (rows_at rows) → Bound L (columns_in L.instances L.log) (class_rows S L.instances L.log)
    to-bound all =
        subst (Bound L (columns_in L.instances L.log)) same-rows
        (subst (λ (cols : ℕ → List ℕ). Bound L cols (rows_at rows)) are
        (subst (λ (M : Logged). Bound M (columns_at D.columns.now) (rows_at rows)) logs all))

    from-bound : Bound L (columns_in L.instances L.log) (class_rows S L.instances L.log) → Bound D.log.now (columns_at D.columns.now) (rows_at rows)
    from-bound all =
        subst (λ (M : Logged). Bound M (columns_at D.columns.now) (rows_at rows)) (sym logs)
        (subst (λ (cols : ℕ → List ℕ). Bound L cols (rows_at rows)) (sym are)
        (subst (Bound L (columns_in L.instances L.log)) (sym same-rows) all))

    pub all-shown : (goals offers keep : Bool) (goal : Goal) (found : Option ℕ) (cost : ℕ) → goals ≡ list_all (λ l. is_goal D.log.now.log (columns_at D.columns.now) l.goal) labels → goals ≡ true
        → are_once labels ≡ true → goal ≡ wanted → offers ≡ is_offered D.log.now.instances D.log.now.log (columns_at D.columns.now) p goal → offers ≡ true
        → found ≡ cost_of labels goal → cost ≡ plan_cost S L.instances L.log p → found ≡ Some cost
        → (IsTrue keep ↔ Bound D.log.now (columns_at D.columns.now) (rows_at rows)) → IsTrue keep ↔ Shown
    all-shown goals offers keep goal found cost goals-are all once_ at offers-are offered_ is costs same bound_ = (
      λ so. record {
        offered = sym (offered-at goal offers at offers-are) ∙ offered_;
        goals = sym (all-goals goals goals-are) ∙ all;
        once = once_;
        root_ = ap (cost_of labels) (sym at) ∙ sym is ∙ same ∙ ap (λ n. Some n) costs;
        bound = to-bound (bound_.0 so);
      },
      λ shown. bound_.1 (from-bound shown.bound),
    )
