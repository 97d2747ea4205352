-- Rows are the same where they are equal, and how often a row stands in a list that is made of others.
use Rattle.std.proofs.Common.{◌⊎◌, inl, inr, ◌≡◌, refl, ℕ, ◌+◌, ◌<◌, Bool, true, false, cond, if◌then◌else◌, min, not, List, [], ◌∷◌, ◌++◌, filter, ap, ◌∙◌, arith, rules, subst}
use Rattle.std.specs.FinMap.{slice_cmp-IsAntisymmetric}
use Rattle.std.proofs.lemmas.Cmp.{eq_by_cmp_equiv, lists_total}
use Rattle.values.proofs.Orders.{is_eq-equal, order_antisymmetric, order_total}
use Rattle.schema.specs.Databases.{Row}
use Rattle.query.specs.Rows.{same_rows, count, distinct}

-- ---- the same rows

pub same_rows-equal : (a b : Row) → same_rows a b ≡ true → a ≡ b
same_rows-equal a b h = slice_cmp-IsAntisymmetric order_antisymmetric a b (is_eq-equal _ h)

pub same_rows-refl : (a : Row) → same_rows a a ≡ true
same_rows-refl = (eq_by_cmp_equiv (lists_total order_total)).refl

pub same_rows-from : (a b : Row) → a ≡ b → same_rows a b ≡ true
same_rows-from a b h = subst (λ x. same_rows a x ≡ true) h (same_rows-refl a)

pub same_rows-sym : (a b : Row) → same_rows a b ≡ same_rows b a
same_rows-sym = (eq_by_cmp_equiv (lists_total order_total)).symm

-- ---- counts

pub counted-first : (r : Row) (L : List Row) → 0 < count r (r ∷ L)
counted-first r L = rw (same_rows-refl r) (omega arith)

pub counted-later : (r s : Row) (L : List Row) → 0 < count r L → 0 < count r (s ∷ L)
counted-later r s L h = omega arith

-- what stands in a list is its first row or stands in the rest
pub counted-either : (r s : Row) (L : List Row) → 0 < count r (s ∷ L) → (r ≡ s) ⊎ (0 < count r L)
counted-either r s L h = by (same_rows r s) refl h
  where
    by : (b : Bool) → same_rows r s ≡ b → 0 < (if b then 1 else 0) + count r L → (r ≡ s) ⊎ (0 < count r L)
    by true same h = inl (same_rows-equal r s same)
    by false same h = inr (omega arith)

pub count-append : (r : Row) (L M : List Row) → count r (L ++ M) ≡ count r L + count r M
count-append r [] M = omega arith
count-append r (s ∷ L) M = omega (arith, count-append r L M)

filter-step : (p : Row → Bool) (r s : Row) (L : List Row) → (same_rows r s ≡ true → r ≡ s) → count r (filter p L) ≡ cond (p r) (count r L) 0
    → count r (filter p (s ∷ L)) ≡ cond (p r) (count r (s ∷ L)) 0
filter-step p r s L same before = grind (arith, rules)

-- a test sees no more of a row than its values
pub count-filter : (p : Row → Bool) (r : Row) (L : List Row) → count r (filter p L) ≡ (if p r then count r L else 0)
count-filter p r [] = grind (arith, rules)
count-filter p r (s ∷ L) = filter-step p r s L (same_rows-equal r s) (count-filter p r L)

distinct-step : (same : Bool) (n m : ℕ) → n ≡ min 1 m → (if same then 1 else 0) + (if not same then n else 0) ≡ min 1 ((if same then 1 else 0) + m)
distinct-step true n m h = omega arith
distinct-step false n m h = omega arith

pub count-distinct : (r : Row) (L : List Row) → count r (distinct L) ≡ min 1 (count r L)
count-distinct r [] = refl
count-distinct r (s ∷ L) =
    ap (λ n. (if same_rows r s then 1 else 0) + n) (count-filter (λ x. not (same_rows s x)) r (distinct L) ∙ ap (λ b. if not b then count r (distinct L) else 0) (same_rows-sym s r))
    ∙ distinct-step (same_rows r s) _ _ (count-distinct r L)
