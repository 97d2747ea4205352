-- Classes put into a set, one by one.
use Rattle.std.proofs.Common.{◌≡◌, refl, ap, sym, ◌∙◌, ℕ, zero, suc, ◌+◌, ◌<◌, Bool, true, false, ◌||◌, ◌==◌, if◌then◌else◌, List, [], ◌∷◌, length, take, set, get_or, arith}
use Rattle.std.specs.List.{AllByRecursion}
use Rattle.std.proofs.lemmas.Bool.{eqb-true, eq-eqb}
use Rattle.std.proofs.lemmas.List.{get_or-set_same, get_or-set_other}
use Rattle.std.proofs.lemmas.List.Folds.{list_any_more}
use Rattle.std.proofs.Math.Bool.{or-false, or-true}
use Rattle.algebra.specs.Columns.{has}

pub read-all : (P : ℕ → Type 0) (xs : List ℕ) (i d : ℕ) → AllByRecursion P xs → i < length xs → P (get_or xs i d)
read-all P [] i d all lt = absurd (omega (arith, lt))
read-all P (x ∷ xs) zero d all lt = all.0
read-all P (x ∷ xs) (suc i) d all lt = read-all P xs i d all.1 (omega (arith, lt))

module _ (sets old classes : List ℕ) (v i : ℕ) (lt : i < length classes) (within : get_or classes i 0 < length sets) where
  abbrev class : ℕ
  class = get_or classes i 0

  more : (g : ℕ) → has (take (i + 1) classes) g ≡ (has (take i classes) g || class == g)
  more g = list_any_more (λ k. k == g) classes i 0 lt

  pub relabelled : ((g : ℕ) → get_or sets g 0 ≡ (if has (take i classes) g then v else get_or old g 0))
      → (g : ℕ) → get_or (set sets class v) g 0 ≡ (if has (take (i + 1) classes) g then v else get_or old g 0)
  relabelled before g = by (class == g) refl
    where
      by : (b : Bool) → (class == g) ≡ b → get_or (set sets class v) g 0 ≡ (if has (take (i + 1) classes) g then v else get_or old g 0)
      by true is =
          ap (λ k. get_or (set sets class v) k 0) (sym (eqb-true class g is)) ∙ get_or-set_same sets class v 0 within
          ∙ sym (ap (λ b. if b then v else get_or old g 0) (more g ∙ ap (λ b. has (take i classes) g || b) is ∙ or-true _))
      by false is =
          get_or-set_other sets class g v 0 (λ e. let never : true ≡ false = sym (eq-eqb class g (sym e)) ∙ is in cc) ∙ before g
          ∙ sym (ap (λ b. if b then v else get_or old g 0) (more g ∙ ap (λ b. has (take i classes) g || b) is ∙ or-false _))

pub all-from-has : (P : ℕ → Type 0) (xs : List ℕ) → ((g : ℕ) → has xs g ≡ true → P g) → AllByRecursion P xs
all-from-has P [] h = tt
all-from-has P (x ∷ xs) h = (h x (ap (λ b. b || has xs x) (eq-eqb x x refl)), all-from-has P xs (λ g is. h g (ap (λ b. x == g || b) is ∙ or-true _)))
