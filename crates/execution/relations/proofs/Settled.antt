-- An OR that one of its parts settles.
use Rattle.std.proofs.Common.{◌≡◌, refl, ap, sym, ◌∙◌, inl, inr, ℕ, zero, suc, ◌+◌, ◌<◌, ◌≤◌, Bool, true, false, ◌||◌, List, [], ◌∷◌, fold, map, arith}
use Rattle.std.specs.List.{list_any, range_with_len}
use Rattle.std.proofs.lemmas.Bool.{cases_eq}
use Rattle.values.specs.declared.truth.Truth.{Truth}
use Rattle.values.specs.declared.truth.Truth.TheVariants.{True, False, Unknown}
use Rattle.values.specs.Truth.{disjunction, is_true}
use Rattle.query.specs.Meaning.{any_of}
use Rattle.query.proofs.Truths.{true-or}

stays-true : (ts : List Truth) → fold disjunction True ts ≡ True
stays-true [] = refl
stays-true (True ∷ ts) = stays-true ts
stays-true (False ∷ ts) = stays-true ts
stays-true (Unknown ∷ ts) = stays-true ts

settled-from : (f : ℕ → Truth) (t : Truth) (a n i : ℕ) → a ≤ i → i < a + n → f i ≡ True → fold disjunction t (map f (range_with_len a n)) ≡ True
settled-from f t a zero i low high is = absurd (omega (arith, low, high))
settled-from f t a (suc n) i low high is = elim (cases_eq i a) [
  | inl e ↦ ap (λ v. fold disjunction (disjunction t v) (map f (range_with_len (a + 1) n))) (ap f (sym e) ∙ is) ∙ ap (λ v. fold disjunction v (map f (range_with_len (a + 1) n))) (true-or t) ∙ stays-true (map f (range_with_len (a + 1) n))
  | inr ne ↦ settled-from f (disjunction t (f a)) (a + 1) n i (omega (arith, low, ne)) (omega (arith, high)) is
]

-- by the number of a part that is true
pub any-settled : (f : ℕ → Truth) (n i : ℕ) → i < n → f i ≡ True → any_of (map f (range_with_len 0 n)) ≡ True
any-settled f n i below is = settled-from f False 0 n i (omega arith) (omega (arith, below)) is

-- ---- an OR of a list is true where one of it is

true-or-either : (a b : Truth) → is_true (disjunction a b) ≡ (is_true a || is_true b)
true-or-either True b = refl
true-or-either Unknown True = refl
true-or-either Unknown Unknown = refl
true-or-either Unknown False = refl
true-or-either False b = refl

true-from : (a : Truth) (ts : List Truth) → is_true (fold disjunction a ts) ≡ (is_true a || list_any is_true ts)
true-from a [] = by (is_true a)
  where
    by : (b : Bool) → b ≡ (b || false)
    by true = refl
    by false = refl
true-from a (t ∷ ts) = true-from (disjunction a t) ts ∙ ap (λ b. b || list_any is_true ts) (true-or-either a t) ∙ by (is_true a)
  where
    by : (b : Bool) → ((b || is_true t) || list_any is_true ts) ≡ (b || (is_true t || list_any is_true ts))
    by true = refl
    by false = refl

pub true-any : (ts : List Truth) → is_true (any_of ts) ≡ list_any is_true ts
true-any ts = true-from False ts
