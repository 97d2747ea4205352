-- Sums over the rows of joins, and over two lists of rows.
use Rattle.std.proofs.Common.{◌≡◌, refl, ap, sym, ◌∙◌, ℕ, ◌+◌, ◌≤◌, Bool, true, false, if◌then◌else◌, ◌&&◌, List, [], ◌∷◌, map, arith}
use Rattle.algebra.specs.Columns.{ColumnSet}
use Rattle.algebra.specs.Bags.{Env, Test, Bag, total, lay, matches, join}
use Rattle.algebra.proofs.BagSums.{if_passes, total-map, total-filter, total-flat_map, total-same, total-zero, total-plus}
use Rattle.laws.specs.Fitting.{Fits}
use Rattle.laws.proofs.Overlays.{itself}

-- ---- tests within sums

pub when_both : (p q : Bool) (n : ℕ) → (if p && q then n else 0) ≡ (if p then (if q then n else 0) else 0)
when_both true q n = refl
when_both false q n = refl

pub when_swap : (p q : Bool) (n : ℕ) → (if p then (if q then n else 0) else 0) ≡ (if q then (if p then n else 0) else 0)
when_swap true true n = refl
when_swap true false n = refl
when_swap false true n = refl
when_swap false false n = refl

-- a sum that one test decides
pub total_when : (b : Bool) (f : Env → ℕ) (xs : List Env) → total (λ r. if b then f r else 0) xs ≡ (if b then total f xs else 0)
total_when true f xs = refl
total_when false f xs = total-zero _ (λ r. refl) xs

-- ---- two lists

pub total_swap : (h : Env → Env → ℕ) (xs ys : List Env) → total (λ r. total (h r) ys) xs ≡ total (λ s. total (λ r. h r s) xs) ys
total_swap h [] ys = sym (total-zero _ (λ s. refl) ys)
total_swap h (x ∷ xs) ys = ap (λ n. total (h x) ys + n) (total_swap h xs ys) ∙ sym (total-plus (h x) (λ s. total (λ r. h r s) xs) ys)

pub total_le : (f g : Env → ℕ) → ((r : Env) → f r ≤ g r) → (xs : List Env) → total f xs ≤ total g xs
total_le f g below [] = omega arith
total_le f g below (x ∷ xs) = let first : f x ≤ g x = below x in let later : total f xs ≤ total g xs = total_le f g below xs in omega arith

-- ---- joins

pub total_matches : (f : Env → ℕ) (p : Test) (B : ColumnSet) (rows : List Env) (r : Env) → total f (matches p B rows r) ≡ total (λ s. if_passes p f (lay B s r)) rows
total_matches f p B rows r = total-filter f p (map (λ s. lay B s r) rows) ∙ total-map (if_passes p f) (λ s. lay B s r) rows

pub total_join : (f : Env → ℕ) (p : Test) (B : ColumnSet) (a b : Bag) (e : Env) → total f (join p B a b e) ≡ total (λ r. total (λ s. if_passes p f (lay B s r)) (b e)) (a e)
total_join f p B a b e = total-flat_map f (matches p B (b e)) (a e) ∙ total-same _ _ (total_matches f p B (b e)) (a e)

-- ---- rows that fit

-- each row is its environment outside the columns
pub total_laid : (A F : ColumnSet) (a : Bag) → Fits A F a → (e : Env) (f : Env → ℕ) → total f (a e) ≡ total (λ r. f (lay A r e)) (a e)
total_laid A F a fits e f = ap (total f) (fits e e (itself F e)) ∙ total-map f (λ r. lay A r e) (a e)
