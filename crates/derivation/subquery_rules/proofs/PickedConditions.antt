-- The picked condition: what it is, and the conjuncts that stay beside it.
use Rattle.std.proofs.Common.{◌≡◌, refl, ap, sym, ◌∙◌, ℕ, Bool, true, false, ◌&&◌, if◌then◌else◌, List, [], ◌∷◌, Some}
use Rattle.std.specs.Cmp.{both_ways}
use Rattle.std.specs.List.{list_all}
use Rattle.values.proofs.Lists.{passes_at}
use Rattle.values.specs.Truth.{is_true}
use Rattle.algebra.specs.declared.condition.Condition.{Condition, roll-Condition, out-Condition, roll-out-Condition}
use Rattle.algebra.specs.declared.condition.Condition.TheOpen.{Condition-F}
use Rattle.algebra.specs.declared.condition.Condition.TheVariants.{Not, Exists, In, rolls-Not, rolls-Exists, rolls-In}
use Rattle.algebra.specs.declared.condition.Term.{Term}
use Rattle.algebra.specs.Bags.{Env, Bag}
use Rattle.algebra.specs.Conditions.{truth, holds}
use Rattle.algebra.specs.ConditionEquality.{same_condition}
use Rattle.algebra.specs.ConjunctParts.{part, rest}
use Rattle.algebra.proofs.ConjunctSplits.{split_passes, union_holds}
use Rattle.algebra.proofs.Same.{equal_condition, tested_condition}
use Rattle.rules.specs.Bindings.{SubqueryPick}
use Rattle.rules.specs.Patterns.{subquery_of}
use Rattle.rules.proofs.BoundForms.{IsPicked}
use Rattle.rules.proofs.Subqueries.{subquery-Not, subquery-Exists, subquery-In}
use Rattle.subquery_rules.specs.Unnesting as spec

-- ---- what it is

exists-is : (c : Condition) (g : ℕ) → spec.is_exists c ≡ true → subquery_of c ≡ Some g → c ≡ Exists g
exists-is c g is class = by (out-Condition c) (roll-out-Condition c) is
  where
    by : (x : Condition-F Condition) → roll-Condition x ≡ c → spec.exists_layer x ≡ true → c ≡ Exists g
    by (Condition-F.Exists h) at is =
        let same : c ≡ Exists h = sym at ∙ rolls-Exists h in
        let one : Some h ≡ Some g = sym (ap subquery_of same ∙ subquery-Exists h) ∙ class in
        same ∙ ap Exists (let e : h ≡ g = cc in e)
    by x at is = cc

member-is : (c : Condition) (g : ℕ) (m : Term × ℕ) → spec.member c ≡ Some m → subquery_of c ≡ Some g → c ≡ In m.0 g m.1
member-is c g m is class = by (out-Condition c) (roll-out-Condition c) is
  where
    by : (x : Condition-F Condition) → roll-Condition x ≡ c → spec.member_layer x ≡ Some m → c ≡ In m.0 g m.1
    by (Condition-F.In t h k) at is =
        let got : Term × ℕ = (t, k) in
        let pair : got ≡ m = cc in
        let same : c ≡ In t h k = sym at ∙ rolls-In t h k in
        let one : Some h ≡ Some g = sym (ap subquery_of same ∙ subquery-In t h k) ∙ class in
        same ∙ ap (λ j. In t j k) (let e : h ≡ g = cc in e) ∙ ap (λ (n : Term × ℕ). In n.0 g n.1) pair
    by x at is = cc

-- the part of NOT, which is a subquery of the same class
denied-class : (c d : Condition) (g : ℕ) → c ≡ Not d → subquery_of c ≡ Some g → subquery_of d ≡ Some g
denied-class c d g same class = sym (ap subquery_of same ∙ subquery-Not d) ∙ class

not_exists-is : (c : Condition) (g : ℕ) → spec.is_not_exists c ≡ true → subquery_of c ≡ Some g → c ≡ Not (Exists g)
not_exists-is c g is class = by (out-Condition c) (roll-out-Condition c) is
  where
    by : (x : Condition-F Condition) → roll-Condition x ≡ c → spec.not_exists_layer x ≡ true → c ≡ Not (Exists g)
    by (Condition-F.Not d) at is =
        let same : c ≡ Not d = sym at ∙ rolls-Not d in
        same ∙ ap Not (exists-is d g is (denied-class c d g same class))
    by x at is = cc

denied-is : (c : Condition) (g : ℕ) (m : Term × ℕ) → spec.denied_member c ≡ Some m → subquery_of c ≡ Some g → c ≡ Not (In m.0 g m.1)
denied-is c g m is class = by (out-Condition c) (roll-out-Condition c) is
  where
    by : (x : Condition-F Condition) → roll-Condition x ≡ c → spec.denied_layer x ≡ Some m → c ≡ Not (In m.0 g m.1)
    by (Condition-F.Not d) at is =
        let same : c ≡ Not d = sym at ∙ rolls-Not d in
        same ∙ ap Not (member-is d g m is (denied-class c d g same class))
    by x at is = cc

module _ (p : SubqueryPick) (picked : IsPicked p) where
  pub is_of-exists : spec.is_exists p.condition ≡ true → p.condition ≡ Exists p.class
  is_of-exists is = exists-is p.condition p.class is picked.class

  pub is_of-not_exists : spec.is_not_exists p.condition ≡ true → p.condition ≡ Not (Exists p.class)
  is_of-not_exists is = not_exists-is p.condition p.class is picked.class

  pub is_of-member : (m : Term × ℕ) → spec.member p.condition ≡ Some m → p.condition ≡ In m.0 p.class m.1
  is_of-member m is = member-is p.condition p.class m is picked.class

  pub is_of-denied : (m : Term × ℕ) → spec.denied_member p.condition ≡ Some m → p.condition ≡ Not (In m.0 p.class m.1)
  is_of-denied m is = denied-is p.condition p.class m is picked.class

  -- ---- the conjuncts beside it

  abbrev same : Condition → Bool
  same d = same_condition d p.condition

  -- those that are the same pass where it does
  same-pass : (t : Condition → Bool) → list_all t (part same p.conjuncts) ≡ t p.condition
  same-pass t = both_ways (list_all t (part same p.conjuncts)) (t p.condition) (λ all. passes (sym (filtered p.conjuncts) ∙ all)) (λ is. filtered p.conjuncts ∙ all-same is p.conjuncts)
    where
      weak : Condition → Bool
      weak d = if same d then t d else true

      filtered : (C : List Condition) → list_all t (part same C) ≡ list_all weak C
      filtered [] = refl
      filtered (d ∷ C) = by (same d) (filtered C)
        where
          by : (b : Bool) → list_all t (part same C) ≡ list_all weak C → list_all t (if b then d ∷ part same C else part same C) ≡ ((if b then t d else true) && list_all weak C)
          by true later = ap (λ v. t d && v) later
          by false later = later

      passes : list_all weak p.conjuncts ≡ true → t p.condition ≡ true
      passes all =
          ap (λ (b : Bool). if b then t p.condition else true) (tested_condition true p.condition p.condition (λ e. refl, λ e. refl))
          ∙ passes_at weak p.conjuncts p.place p.condition all picked.at

      all-same : t p.condition ≡ true → (C : List Condition) → list_all weak C ≡ true
      all-same is [] = refl
      all-same is (d ∷ C) = rw (all-same is C) (by (same d) refl)
        where
          by : (b : Bool) → same d ≡ b → ((if b then t d else true) && true) ≡ true
          by true equal = rw (ap t (equal_condition d p.condition equal) ∙ is) refl
          by false other = refl

  -- the list holds where it and the others do
  pub picked-holds : (W : ℕ → Bag) (r : Env) → holds W p.conjuncts r ≡ (is_true (truth p.condition W r) && holds W (spec.others p) r)
  picked-holds W r =
      split_passes (λ d. is_true (truth d W r)) same p.conjuncts
      ∙ ap (λ v. v && holds W (rest same p.conjuncts) r) (same-pass (λ d. is_true (truth d W r)))
      ∙ ap (λ v. is_true (truth p.condition W r) && v) (sym (union_holds W [] (rest same p.conjuncts) r))
