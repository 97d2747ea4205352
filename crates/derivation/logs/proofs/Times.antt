-- How often a list has a number.
use Rattle.std.proofs.Common.{◌≡◌, refl, ap, sym, ◌∙◌, ℕ, ◌+◌, ◌≤◌, Bool, true, false, ◌||◌, ◌==◌, List, [], ◌∷◌, ◌++◌, cond, arith}
use Rattle.std.specs.List.{sum_by}
use Rattle.std.proofs.lemmas.Bool.{eq-eqb, eqb-true}
use Rattle.std.proofs.lemmas.List.Sums.{sum_by-append, sum_by-cons}
use Rattle.algebra.specs.Columns.{has}
use Rattle.logs.specs.Sets.{times}

pub times-append : (n : ℕ) (xs ys : List ℕ) → times n (xs ++ ys) ≡ times n xs + times n ys
times-append n xs ys = sum_by-append (λ k. cond (k == n) 1 0) xs ys

pub times-cons : (n x : ℕ) (xs : List ℕ) → times n (x ∷ xs) ≡ cond (x == n) 1 0 + times n xs
times-cons n x xs = sum_by-cons (λ k. cond (k == n) 1 0) x xs

-- a number that a list has, and one that it hasn't
pub times-some : (n : ℕ) (xs : List ℕ) → has xs n ≡ true → 1 ≤ times n xs
times-some n [] is = cc
times-some n (x ∷ xs) is = by (x == n) refl (times-some n xs)
  where
    by : (b : Bool) → (x == n) ≡ b → (has xs n ≡ true → 1 ≤ times n xs) → 1 ≤ times n (x ∷ xs)
    by true e rest = let more : times n (x ∷ xs) ≡ 1 + times n xs = times-cons n x xs ∙ ap (λ b. cond b 1 0 + times n xs) e in omega (arith, more)
    by false e rest =
        let more : times n (x ∷ xs) ≡ 0 + times n xs = times-cons n x xs ∙ ap (λ b. cond b 1 0 + times n xs) e in
        let some : 1 ≤ times n xs = rest (sym (ap (λ b. b || has xs n) e) ∙ is) in
        omega (arith, more, some)

pub times-none : (n : ℕ) (xs : List ℕ) → has xs n ≡ false → times n xs ≡ 0
times-none n [] is = refl
times-none n (x ∷ xs) is = by (x == n) refl (times-none n xs)
  where
    by : (b : Bool) → (x == n) ≡ b → (has xs n ≡ false → times n xs ≡ 0) → times n (x ∷ xs) ≡ 0
    by true e rest = absurd (let never : true ≡ false = sym (ap (λ b. b || has xs n) e) ∙ is in cc)
    by false e rest =
        let more : times n (x ∷ xs) ≡ 0 + times n xs = times-cons n x xs ∙ ap (λ b. cond b 1 0 + times n xs) e in
        let none : times n xs ≡ 0 = rest (sym (ap (λ b. b || has xs n) e) ∙ is) in
        omega (arith, more, none)

-- the sum of nothing
pub sum-none : (xs : List ℕ) → sum_by (λ (x : ℕ). 0) xs ≡ 0
sum-none [] = refl
sum-none (x ∷ xs) = sum_by-cons (λ (x : ℕ). 0) x xs ∙ ap (λ n. 0 + n) (sum-none xs)
