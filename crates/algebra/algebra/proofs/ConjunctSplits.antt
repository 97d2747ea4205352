-- Parts of lists of conjuncts are such lists, and a list holds where both parts do.
use Rattle.std.proofs.Common.{◌≡◌, refl, ap, sym, ◌∙◌, subst, ℕ, Bool, true, false, not, ◌&&◌, if◌then◌else◌, List, [], ◌∷◌, ◌++◌, map, filter}
use Rattle.std.specs.List.{AllByRecursion, list_all}
use Rattle.std.proofs.lemmas.List.Folds.{list_all-append, list_all-map}
use Rattle.values.proofs.Each.{all_filter}
use Rattle.values.specs.Truth.{is_true}
use Rattle.algebra.specs.declared.condition.Condition.{Condition}
use Rattle.algebra.specs.Bags.{Env, Bag}
use Rattle.algebra.specs.Conditions.{truth, holds}
use Rattle.algebra.specs.ConjunctOrder.{goes_before, IsPart, IsInOrder, AreConjuncts}
use Rattle.algebra.specs.ConditionEquality.{same_condition}
use Rattle.algebra.specs.ConjunctParts.{union, part, rest}
use Rattle.algebra.proofs.ConjunctLists.{conjuncts-all}
use Rattle.algebra.proofs.Truths.{truth-And, true-all}

in-order-part : (p : Condition → Bool) (C : List Condition) → IsInOrder C → IsInOrder (filter p C)
in-order-part p [] ordered = tt
in-order-part p (c ∷ C) ordered = by (p c) (all_filter (λ d. (goes_before d c ≡ false) × (same_condition c d ≡ false)) p C ordered.0) (in-order-part p C ordered.1)
  where
    by : (b : Bool) → AllByRecursion (λ d. (goes_before d c ≡ false) × (same_condition c d ≡ false)) (filter p C) → IsInOrder (filter p C) → IsInOrder (if b then c ∷ filter p C else filter p C)
    by true later others = (later, others)
    by false later others = others

pub are_conjuncts_part : (p : Condition → Bool) (C : List Condition) → AreConjuncts C → AreConjuncts (part p C)
are_conjuncts_part p C are = record { parts = all_filter IsPart p C are.parts; ordered = in-order-part p C are.ordered }

-- so is a list that is such a part
pub are_part : (p : Condition → Bool) (C D L : List Condition) → D ≡ part p L → L ≡ C → AreConjuncts C → AreConjuncts D
are_part p C D L is same are = subst AreConjuncts (sym (is ∙ ap (part p) same)) (are_conjuncts_part p C are)

-- ---- what holds

pub union_holds : (W : ℕ → Bag) (C D : List Condition) (r : Env) → holds W (union C D) r ≡ (holds W C r && holds W D r)
union_holds W C D r =
    conjuncts-all (λ d. is_true (truth d W r)) (λ a b ds. ap is_true (truth-And a b ds W r) ∙ true-all (map (λ d. truth d W r) (a ∷ b ∷ ds)) ∙ list_all-map is_true (λ d. truth d W r) (a ∷ b ∷ ds)) (C ++ D)
    ∙ list_all-append (λ d. is_true (truth d W r)) C D

-- a list passes where both of its parts do
pub split_passes : (t p : Condition → Bool) (C : List Condition) → list_all t C ≡ (list_all t (part p C) && list_all t (rest p C))
split_passes t p [] = refl
split_passes t p (c ∷ C) = rw (split_passes t p C) (by (p c))
  where
    first : (v x y : Bool) → (v && (x && y)) ≡ ((v && x) && y)
    first true x y = refl
    first false x y = refl

    second : (v x y : Bool) → (v && (x && y)) ≡ (x && (v && y))
    second true x y = refl
    second false true y = refl
    second false false y = refl

    by : (b : Bool) → (t c && (list_all t (part p C) && list_all t (rest p C)))
        ≡ (list_all t (if b then c ∷ part p C else part p C) && list_all t (if not b then c ∷ rest p C else rest p C))
    by true = first (t c) _ _
    by false = second (t c) _ _
