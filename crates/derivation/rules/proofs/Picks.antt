-- What passes a test of all conjuncts passes it of what is picked of them.
use Rattle.std.proofs.Common.{◌≡◌, ap, sym, ◌∙◌, subst, ℕ, Bool, true, Option, Some}
use Rattle.std.specs.List.{list_all}
use Rattle.values.proofs.Lists.{passes_at}
use Rattle.algebra.specs.declared.condition.Condition.{Condition, roll-Condition, fold-roll-Condition, ind-Condition, map-Condition}
use Rattle.algebra.specs.declared.condition.Condition.TheOpen.{Condition-F}
use Rattle.algebra.specs.Conditions.{Passes, classes_layer, all_classes, classes_in}
use Rattle.algebra.specs.Expressions.{subqueries_pass}
use Rattle.algebra.proofs.MentionedColumns.{each_has}
use Rattle.algebra.proofs.NamedClasses.{classes-pass}
use Rattle.rules.specs.Bindings.{SubqueryPick, ClassPick}
use Rattle.rules.specs.Patterns.{subquery_layer, subquery_of}
use Rattle.rules.proofs.BoundForms.{IsPicked, IsNamed}

-- the conjunct
pub condition-passes : (test : Condition → Bool) (p : SubqueryPick) → IsPicked p → list_all test p.conjuncts ≡ true → test p.condition ≡ true
condition-passes test p picked all = passes_at test p.conjuncts p.place p.condition all picked.at

module _ (q : ℕ → Bool) where
  abbrev P : Condition → Type 0
  P c = (g : ℕ) → all_classes c q ≡ true → subquery_of c ≡ Some g → q g ≡ true

  abbrev Part : Type 0
  Part = (c : Condition) × P c

  abbrev whole : Condition-F Part → Condition-F Condition
  whole y = map-Condition Part Condition (λ c. c.0) y

  layer : (y : Condition-F Part) (g : ℕ) → classes_layer (map-Condition Condition Passes all_classes (whole y)) q ≡ true
      → subquery_layer (map-Condition Condition (Option ℕ) subquery_of (whole y)) ≡ Some g → q g ≡ true
  layer (Condition-F.Compare op a b) g pass is = cc
  layer (Condition-F.IsNull a) g pass is = cc
  layer (Condition-F.Not c) g pass is = c.1 g pass is
  layer (Condition-F.And a b cs) g pass is = cc
  layer (Condition-F.Or a b cs) g pass is = cc
  layer (Condition-F.Exists h) g pass is = let e : h ≡ g = cc in ap q (sym e) ∙ pass
  layer (Condition-F.In a h k) g pass is = let e : h ≡ g = cc in ap q (sym e) ∙ pass

  step : (y : Condition-F Part) → P (roll-Condition (whole y))
  unfolding all_classes subquery_of
  step y g pass is =
      layer y g (subst (λ (m : Passes). m q ≡ true) (fold-roll-Condition Passes classes_layer (whole y)) pass) (sym (fold-roll-Condition (Option ℕ) subquery_layer (whole y)) ∙ is)

  subquery-passes : (c : Condition) → P c
  subquery-passes = ind-Condition P (λ x y is. subst (λ z. P (roll-Condition z)) is (step y))

  -- the class
  pub picked-passes : (p : SubqueryPick) → IsPicked p → subqueries_pass q p.conjuncts ≡ true → q p.class ≡ true
  picked-passes p picked pass = subquery-passes p.condition p.class (condition-passes (λ c. all_classes c q) p picked pass) picked.class

  pub named-passes : (p : ClassPick) → IsNamed p → subqueries_pass q p.conjuncts ≡ true → q p.class ≡ true
  named-passes p named pass = each_has q (classes_in p.conjuncts) (classes-pass q p.conjuncts pass) p.class named.named
