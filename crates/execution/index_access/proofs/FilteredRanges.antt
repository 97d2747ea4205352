-- A filter of a list needs a part of it alone, where nothing else passes.
use Rattle.std.proofs.Common.{◌≡◌, refl, ap, ◌∙◌, ℕ, zero, suc, ◌+◌, ◌-◌, ◌<◌, ◌≤◌, Bool, true, false, not, cond, List, [], ◌∷◌, length, get_or, take, drop, filter, arith, length-drop, get_or-drop}
use Rattle.std.specs.List.{slice_range, AllWithin}

without-first : {X : Type 0} (p : X → Bool) (a : ℕ) (xs : List X) → ((k : ℕ) (d : X) → k < a → k < length xs → p (get_or xs k d) ≡ false) → filter p (drop a xs) ≡ filter p xs
without-first p zero xs none = refl
without-first p (suc a) [] none = refl
without-first p (suc a) (x ∷ xs) none =
    let here : p x ≡ false = none zero x (omega arith) (omega arith) in
    without-first p a xs (λ k d low lt. none (suc k) d (omega (arith, low)) (omega (arith, lt))) ∙ rw here refl

without-last : {X : Type 0} (p : X → Bool) (b : ℕ) (xs : List X) → ((k : ℕ) (d : X) → b ≤ k → k < length xs → p (get_or xs k d) ≡ false) → filter p (take b xs) ≡ filter p xs
without-last p zero [] none = refl
without-last p zero (x ∷ xs) none =
    let here : p x ≡ false = none zero x (omega arith) (omega arith) in
    without-last p zero xs (λ k d low lt. none (suc k) d (omega arith) (omega (arith, lt))) ∙ rw here refl
without-last p (suc b) [] none = refl
without-last p (suc b) (x ∷ xs) none = ap (λ ys. cond (p x) (x ∷ ys) ys) (without-last p b xs (λ k d low lt. none (suc k) d (omega (arith, low)) (omega (arith, lt))))

pub filter_range : {X : Type 0} (p : X → Bool) (xs : List X) (a b : ℕ) → a ≤ b → AllWithin (λ x. p x ≡ false) xs 0 a → AllWithin (λ x. p x ≡ false) xs b (length xs)
    → filter p (slice_range xs a b) ≡ filter p xs
filter_range {X} p xs a b le first last =
    without-last p (b - a) (drop a xs) (λ k d low lt. rw get_or-drop (last (a + k) d (omega (arith, low)) (omega (arith, lt, length-drop a xs))))
    ∙ without-first p a xs (λ k d low lt. first k d (omega arith) low)

-- nothing is left where all before a and all from b on fails, and b is not behind a
pub filter_none : {X : Type 0} (p : X → Bool) (xs : List X) (a b : ℕ) → b ≤ a → AllWithin (λ x. p x ≡ false) xs 0 a → AllWithin (λ x. p x ≡ false) xs b (length xs) → [] ≡ filter p xs
filter_none p [] a b le first last = refl
filter_none p (x ∷ xs) zero b le first last =
    let here : p x ≡ false = last zero x (omega (arith, le)) (omega arith) in
    filter_none p xs zero b le (λ k d low lt. first (suc k) d (omega arith) (omega (arith, lt))) (λ k d low lt. last (suc k) d (omega (arith, low)) (omega (arith, lt))) ∙ rw here refl
filter_none p (x ∷ xs) (suc a) b le first last =
    let here : p x ≡ false = first zero x (omega arith) (omega arith) in
    filter_none p xs a (b - 1) (omega (arith, le)) (λ k d low lt. first (suc k) d (omega arith) (omega (arith, lt))) (λ k d low lt. last (suc k) d (omega (arith, low)) (omega (arith, lt))) ∙ rw here refl

-- what passes goes with b in another test
pub missed : {X : Type 0} (p q : X → Bool) (b : Bool) (xs : List X) (low high : ℕ) → ((x : X) → p x ≡ true → q x ≡ b) → AllWithin (λ x. q x ≡ not b) xs low high → AllWithin (λ x. p x ≡ false) xs low high
missed p q b xs low high ordinary all k d le lt = by (p (get_or xs k d)) b (ordinary (get_or xs k d)) (all k d le lt)
  where
    by : (r b : Bool) → (r ≡ true → q (get_or xs k d) ≡ b) → q (get_or xs k d) ≡ not b → r ≡ false
    by true true h other = cc (h refl)
    by true false h other = cc (h refl)
    by false b h other = refl
