-- Sums over rows, and over lists that are made of others.
use Rattle.std.proofs.Common.{◌≡◌, refl, ap, ◌∙◌, ℕ, ◌+◌, ◌==◌, Bool, true, false, not, if◌then◌else◌, List, [], ◌∷◌, ◌++◌, map, filter, flat_map, arith}
use Rattle.std.proofs.lemmas.Bool.{ne_eqb}
use Rattle.query.specs.Meaning.{or_else_row}
use Rattle.algebra.specs.Bags.{Env, Test, total}

pub total-append : (f : Env → ℕ) (xs ys : List Env) → total f (xs ++ ys) ≡ total f xs + total f ys
total-append f [] ys = omega arith
total-append f (x ∷ xs) ys = omega (arith, total-append f xs ys)

pub total-map : (f : Env → ℕ) (g : Env → Env) (xs : List Env) → total f (map g xs) ≡ total (λ r. f (g r)) xs
total-map f g [] = refl
total-map f g (x ∷ xs) = ap (λ n. f (g x) + n) (total-map f g xs)

-- what a sum takes of a row that passes
abbrev pub if_passes : Test → (Env → ℕ) → Env → ℕ
if_passes p f r = if p r then f r else 0

pub total-filter : (f : Env → ℕ) (p : Test) (xs : List Env) → total f (filter p xs) ≡ total (if_passes p f) xs
total-filter f p [] = refl
total-filter f p (x ∷ xs) = by (p x) ∙ ap (λ n. if_passes p f x + n) (total-filter f p xs)
  where
    by : (b : Bool) → total f (if b then x ∷ filter p xs else filter p xs) ≡ (if b then f x else 0) + total f (filter p xs)
    by true = refl
    by false = omega arith

pub total-flat_map : (f : Env → ℕ) (g : Env → List Env) (xs : List Env) → total f (flat_map g xs) ≡ total (λ r. total f (g r)) xs
total-flat_map f g [] = refl
total-flat_map f g (x ∷ xs) = total-append f (g x) (flat_map g xs) ∙ ap (λ n. total f (g x) + n) (total-flat_map f g xs)

-- sums of the same at each row
pub total-same : (f g : Env → ℕ) → ((r : Env) → f r ≡ g r) → (xs : List Env) → total f xs ≡ total g xs
total-same f g h [] = refl
total-same f g h (x ∷ xs) = omega (arith, h x, total-same f g h xs)

pub total-zero : (f : Env → ℕ) → ((r : Env) → f r ≡ 0) → (xs : List Env) → total f xs ≡ 0
total-zero f h [] = refl
total-zero f h (x ∷ xs) = omega (arith, h x, total-zero f h xs)

pub total-plus : (f g : Env → ℕ) (xs : List Env) → total (λ r. f r + g r) xs ≡ total f xs + total g xs
total-plus f g [] = omega arith
total-plus f g (x ∷ xs) = omega (arith, total-plus f g xs)

-- rows that pass and rows that don't
pub total-split : (p : Test) (f : Env → ℕ) (xs : List Env) → total f xs ≡ total (if_passes p f) xs + total (if_passes (λ r. not (p r)) f) xs
total-split p f xs = total-same _ _ (λ r. by (p r) (f r)) xs ∙ total-plus (if_passes p f) (if_passes (λ r. not (p r)) f) xs
  where
    by : (b : Bool) (n : ℕ) → n ≡ (if b then n else 0) + (if not b then n else 0)
    by true n = omega arith
    by false n = omega arith

-- ---- how many rows there are

-- how many rows pass
abbrev pub count_passing : Test → List Env → ℕ
count_passing p xs = total (λ r. if p r then 1 else 0) xs

-- a list with a row in place of none: the row counts where there are none
pub total-or_else_row : (f : Env → ℕ) (pad : Env) (xs : List Env) → total f (or_else_row pad xs) ≡ total f xs + (if total (λ r. 1) xs == 0 then f pad else 0)
total-or_else_row f pad [] = omega arith
total-or_else_row f pad (x ∷ xs) = let some : (1 + total (λ r. 1) xs == 0) ≡ false = ne_eqb _ _ (λ h. omega arith) in rw some (omega arith)
