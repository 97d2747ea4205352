-- Where columns stand in rows.
use Rattle.std.proofs.Common.{◌≡◌, refl, ap, sym, ◌∙◌, subst, zero, suc, ℕ, ◌+◌, ◌-◌, ◌<◌, ◌≤◌, nat_lt, ◌==◌, Bool, true, false, ◌||◌, cond, if◌then◌else◌, List, [], ◌∷◌, ◌++◌, length, drop, get_or, map, slice_get, Option, Some, None, is_some, arith}
use Rattle.std.specs.List.{range_with_len}
use Rattle.std.specs.List.Sorted.{IsStrictlyIncreasing, IsStrictlySortedBy}
use Rattle.std.specs.Ordering.{nat_cmp}
use Rattle.std.specs.declared.cmp.Ordering.TheVariants.{Less, Equal, Greater}
use Rattle.std.proofs.lemmas.Bool.{eqb-true, eq-eqb, le-ltb, leb-true, and_parts}
use Rattle.values.proofs.Lists.{all_at}
use Rattle.algebra.proofs.Sets.{range_has}
use Rattle.schema.specs.Databases.{Row}
use Rattle.query.specs.Rows.{value_at}
use Rattle.algebra.specs.Columns.{has}
use Rattle.algebra.specs.Bags.{Env, lay}
use Rattle.std.proofs.lemmas.Map.Keys.{sorted_from_strictly_increasing}
use Rattle.relations.specs.declared.headings.Heading.{Heading}
use Rattle.relations.specs.declared.headings.Place.{Place}
use Rattle.relations.specs.Parts.{value_in}
use Rattle.relations.specs.Places.{place_in, listed, first_at, own_part}
use Rattle.relations.specs.Relations.{column_place, column_places, row_env}

-- ---- a column's place

-- a column that isn't there has no place
pub no-place : (columns : List ℕ) (places : List Place) (c : ℕ) → has columns c ≡ false → place_in columns places c ≡ None
no-place [] places c h = refl
no-place (k ∷ columns) [] c h = refl
no-place (k ∷ columns) (p ∷ places) c h = by (k == c) h (no-place columns places c)
  where
    by : (b : Bool) → (b || has columns c) ≡ false → (has columns c ≡ false → place_in columns places c ≡ None) → (if b then Some p else place_in columns places c) ≡ None
    by true h later = cc
    by false h later = later h

less-differs : (x y : ℕ) → nat_cmp x y ≡ Less → (x == y) ≡ false
less-differs x y h = by (x == y) refl
  where
    by : (b : Bool) → (x == y) ≡ b → b ≡ false
    by false is = refl
    by true is = let e : x ≡ y = eqb-true x y is in let ge : nat_lt x y ≡ false = le-ltb x y (omega (arith, e)) in absurd (let g : cond false Less (cond true Equal Greater) ≡ Less = rw (ge, is) at h in cc)

place-sorted : (columns : List ℕ) (places : List Place) (c i : ℕ) → IsStrictlySortedBy nat_cmp columns → i < length columns → get_or columns i c ≡ c → place_in columns places c ≡ slice_get places i
unfolding IsStrictlySortedBy
place-sorted [] places c i up h is = absurd (omega (arith, h))
place-sorted (k ∷ columns) [] c i up h is = refl
place-sorted (k ∷ columns) (p ∷ places) c zero up h is = rw (eq-eqb k c is) refl
place-sorted (k ∷ columns) (p ∷ places) c (suc i) up h is =
    let other : (k == c) ≡ false = less-differs k c (subst (λ y. nat_cmp k y ≡ Less) is (all_at (λ y. nat_cmp k y ≡ Less) columns i c (omega (arith, h)) up.0)) in
    rw other (place-sorted columns places c i up.1 (omega (arith, h)) is)

-- the place of the column with a number
pub place-at : (columns : List ℕ) (places : List Place) (c i : ℕ) → IsStrictlyIncreasing columns → i < length columns → get_or columns i c ≡ c → place_in columns places c ≡ slice_get places i
place-at columns places c i up h is = place-sorted columns places c i (sorted_from_strictly_increasing columns up) h is

-- each column has a place, if there is one for each
pub has-place : (columns : List ℕ) (places : List Place) (c : ℕ) → length places ≡ length columns → is_some (place_in columns places c) ≡ has columns c
has-place [] places c h = refl
has-place (k ∷ columns) [] c h = absurd (omega (arith, h))
has-place (k ∷ columns) (p ∷ places) c h = by (k == c) (has-place columns places c (omega (arith, h)))
  where
    by : (b : Bool) → is_some (place_in columns places c) ≡ has columns c → is_some (if b then Some p else place_in columns places c) ≡ (b || has columns c)
    by true later = refl
    by false later = later

-- ---- a row under a heading

pub found-column : (h : Heading) (row : List Row) (e : Env) (c : ℕ) (place : Place) → Some place ≡ column_place h c → row_env h row e c ≡ value_in (Some place) row
found-column h row e c place is =
    let there : has h.columns c ≡ true = sym (has-place h.columns h.places.items c h.whole) ∙ ap is_some (sym is) in
    ap (λ b. if b then value_in (column_place h c) row else e c) there ∙ ap (λ o. value_in o row) (sym is)

pub other-column : (h : Heading) (row : List Row) (e : Env) (c : ℕ) → None ≡ column_place h c → row_env h row e c ≡ e c
other-column h row e c is =
    let absent : has h.columns c ≡ false = sym (has-place h.columns h.places.items c h.whole) ∙ ap is_some (sym is) in
    ap (λ b. if b then value_in (column_place h c) row else e c) absent

-- ---- rows whose columns stand in order

drop-behind : {X : Type 0} (n : ℕ) (xs ys : List X) (y : X) → drop n xs ≡ y ∷ ys → drop (n + 1) xs ≡ ys
drop-behind zero [] ys y e = cc
drop-behind zero (x ∷ xs) ys y e = cc
drop-behind (suc n) [] ys y e = cc
drop-behind (suc n) (x ∷ xs) ys y e = let more : suc n + 1 ≡ suc (n + 1) = omega arith in rw more (drop-behind n xs ys y e)

drop-at : (n : ℕ) (xs ys : List Row) (y : Row) → drop n xs ≡ y ∷ ys → get_or xs n [] ≡ y
drop-at zero [] ys y e = cc
drop-at zero (x ∷ xs) ys y e = cc
drop-at (suc n) [] ys y e = cc
drop-at (suc n) (x ∷ xs) ys y e = drop-at n xs ys y e

in-order : (K : List ℕ) (f : Env) (n : ℕ) (row : List Row) (c : ℕ) → drop n row ≡ map (λ k. f k ∷ []) K → has K c ≡ true → value_in (place_in K (map own_part (range_with_len n (length K))) c) row ≡ f c
in-order [] f n row c e there = cc
in-order (k ∷ K) f n row c e there = by (k == c) refl there (in-order K f (n + 1) row c (drop-behind n row (map (λ k. f k ∷ []) K) (f k ∷ []) e))
  where
    by : (b : Bool) → (k == c) ≡ b → (b || has K c) ≡ true → (has K c ≡ true → value_in (place_in K (map own_part (range_with_len (n + 1) (length K))) c) row ≡ f c)
        → value_in (if b then Some (own_part n) else place_in K (map own_part (range_with_len (n + 1) (length K))) c) row ≡ f c
    by true is there later = ap (λ (r : Row). value_at 0 r) (drop-at n row (map (λ k. f k ∷ []) K) (f k ∷ []) e) ∙ ap f (eqb-true k c is)
    by false is there later = later there

-- a row that was made with the columns of an environment
pub made-row : (h : Heading) (K : List ℕ) (f e : Env) (row : List Row) → h.columns ≡ K → h.places.items ≡ map own_part (range_with_len 0 (length K)) → row ≡ map (λ c. f c ∷ []) K → row_env h row e ≡ lay (has K) f e
made-row h K f e row columns places values =
    λ i c. pointwise c i
  where
    pointwise : (c : ℕ) → row_env h row e c ≡ lay (has K) f e c
    pointwise c =
        rw (columns, places) (by (has K c) refl)
      where
        by : (b : Bool) → has K c ≡ b → (if b then value_in (place_in K (map own_part (range_with_len 0 (length K))) c) row else e c) ≡ (if b then f c else e c)
        by true there = in-order K f 0 row c values there
        by false absent = refl

-- the place of a table's column
pub in-run : (first n m c : ℕ) → has (range_with_len first n) c ≡ true → place_in (range_with_len first n) (map first_at (range_with_len m n)) c ≡ Some (first_at (m + (c - first)))
in-run first zero m c there = cc
in-run first (suc n) m c there = by (first == c) refl there (in-run (first + 1) n (m + 1) c)
  where
    by : (b : Bool) → (first == c) ≡ b → (b || has (range_with_len (first + 1) n) c) ≡ true → (has (range_with_len (first + 1) n) c ≡ true → place_in (range_with_len (first + 1) n) (map first_at (range_with_len (m + 1) n)) c ≡ Some (first_at (m + 1 + (c - (first + 1)))))
        → (if b then Some (first_at m) else place_in (range_with_len (first + 1) n) (map first_at (range_with_len (m + 1) n)) c) ≡ Some (first_at (m + (c - first)))
    by true is there later = let e : first ≡ c = eqb-true first c is in ap (λ n. Some (first_at n)) (omega (arith, e))
    by false is there later =
        let low : first + 1 ≤ c = leb-true (first + 1) c (and_parts _ _ (sym (range_has (first + 1) n c) ∙ there)).0 in
        later there ∙ ap (λ n. Some (first_at n)) (omega (arith, low))

-- ---- the places of columns

-- as many places as columns are one for each
few-places : (h : Heading) (K : List ℕ) → length (column_places h K) ≤ length K
few-places h [] = omega arith
few-places h (c ∷ K) = by (column_place h c) (few-places h K)
  where
    by : (o : Option Place) → length (column_places h K) ≤ length K → length (listed o ++ column_places h K) ≤ suc (length K)
    by None few = omega (arith, few)
    by (Some p) few = omega (arith, few)

pub projected-place : (h : Heading) (K : List ℕ) (c : ℕ) → length (column_places h K) ≡ length K → has K c ≡ true → (place_in K (column_places h K) c ≡ column_place h c) × (is_some (column_place h c) ≡ true)
projected-place h [] c whole there = cc
projected-place h (k ∷ K) c whole there = by (column_place h k) refl whole (projected-place h K c)
  where
    IsCut : Type 0
    IsCut = length (column_places h K) ≡ length K → has K c ≡ true → (place_in K (column_places h K) c ≡ column_place h c) × (is_some (column_place h c) ≡ true)

    by : (o : Option Place) → column_place h k ≡ o → length (listed o ++ column_places h K) ≡ suc (length K) → IsCut → (place_in (k ∷ K) (listed o ++ column_places h K) c ≡ column_place h c) × (is_some (column_place h c) ≡ true)
    by None is whole later = absurd (omega (arith, whole, few-places h K))
    by (Some p) is whole later = or (k == c) refl there
      where
        or : (b : Bool) → (k == c) ≡ b → (b || has K c) ≡ true → ((if b then Some p else place_in K (column_places h K) c) ≡ column_place h c) × (is_some (column_place h c) ≡ true)
        or true same there = let e : k ≡ c = eqb-true k c same in (sym is ∙ ap (column_place h) e, ap is_some (sym (ap (column_place h) e) ∙ is))
        or false same there = later (omega (arith, whole)) there

-- a row under a heading that is projected
pub projected-row : (h g : Heading) (K : List ℕ) (row : List Row) (e : Env) → g.columns ≡ K → g.places.items ≡ column_places h K → length (column_places h K) ≡ length K → row_env g row e ≡ lay (has K) (row_env h row e) e
projected-row h g K row e columns places whole = λ i c. pointwise c i
  where
    pointwise : (c : ℕ) → row_env g row e c ≡ lay (has K) (row_env h row e) e c
    pointwise c = rw (columns, places) (by (has K c) refl)
      where
        by : (b : Bool) → has K c ≡ b → (if b then value_in (place_in K (column_places h K) c) row else e c) ≡ (if b then row_env h row e c else e c)
        by true there =
            let found = projected-place h K c whole there in
            let visible : has h.columns c ≡ true = sym (has-place h.columns h.places.items c h.whole) ∙ found.1 in
            ap (λ o. value_in o row) found.0 ∙ sym (ap (λ b. if b then value_in (column_place h c) row else e c) visible)
        by false absent = refl
