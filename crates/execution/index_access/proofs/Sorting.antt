-- Numbers that are sorted by columns and then by themselves are the stable sort of the numbers as they rise.
use Rattle.std.proofs.Common.{◌≡◌, refl, ap, sym, ◌∙◌, ℕ, zero, suc, ◌+◌, ◌<◌, Bool, true, false, not, ◌&&◌, cond, if◌then◌else◌, List, [], ◌∷◌, map, filter, replicate, zero-add, Result, Ok, Err, IfOk, arith}
use Rattle.std.specs.List.{AllByRecursion, range_with_len, sum_by}
use Rattle.std.specs.List.Sorted.{IsPermutation, IsSorted, IsStableBy, ties}
use Rattle.std.specs.declared.cmp.Ordering.{Ordering}
use Rattle.std.specs.declared.cmp.Ordering.TheVariants.{Less, Equal, Greater}
use Rattle.std.specs.Ordering.{is_gt, is_lt, nat_cmp, ordering_then, ordering_reverse, then_cmp}
use Rattle.std.specs.Cmp.{IsTotalOrder, nat_cmp_is}
use Rattle.std.specs.FinMap.{nat_cmp-IsAntisymmetric}
use Rattle.std.proofs.lemmas.Cmp.{nat_cmp_total, then_total}
use Rattle.std.proofs.lemmas.List.Kept.{IsSortedBy-filter}
use Rattle.std.proofs.lemmas.List.Sorted.{ranks_by, sum_by-IsPermutation}
use Rattle.std.proofs.lemmas.List.Sums.{sum_by-cons}
use Rattle.std.proofs.lemmas.Bool.{and_parts}
use Rattle.values.proofs.Each.{all_filter}
use Rattle.values.proofs.Lists.{filter-map}
use Rattle.values.specs.Order.{order}
use Rattle.algebra.specs.Bags.{Env}
use Rattle.physical.specs.Indexes.{rising_keys}
use Rattle.physical.specs.Sorts.{keys_order, put_sorted, sorted}
use Rattle.physical.proofs.Sorting.{map-sorted, sorted-unique}
use Rattle.relations.specs.declared.relation.Relation.{Relation}
use Rattle.relations.specs.Relations.{IsOutput, rows_of}
use Rattle.index_access.specs.Cuts.{columns_order}

-- ---- numbers that rise

abbrev Rises : List ℕ → Type 0
Rises [] = Unit {0}
Rises (x ∷ xs) = AllByRecursion (λ y. x < y) xs × Rises xs

all-range : (x a n : ℕ) → x < a → AllByRecursion (λ y. x < y) (range_with_len a n)
all-range x a zero low = tt
all-range x a (suc n) low = (low, all-range x (a + 1) n (omega (arith, low)))

rises-range : (a n : ℕ) → Rises (range_with_len a n)
rises-range a zero = tt
rises-range a (suc n) = (all-range a (a + 1) n (omega arith), rises-range (a + 1) n)

rises-filter : (p : ℕ → Bool) (xs : List ℕ) → Rises xs → Rises (filter p xs)
rises-filter p [] up = tt
rises-filter p (x ∷ xs) up = by (p x) (all_filter (λ y. x < y) p xs up.0) (rises-filter p xs up.1)
  where
    by : (b : Bool) → AllByRecursion (λ y. x < y) (filter p xs) → Rises (filter p xs) → Rises (cond b (x ∷ filter p xs) (filter p xs))
    by true low rest = (low, rest)
    by false low rest = rest

-- ---- the same sort, ties decided by the numbers

all-put : {X : Type 0} (cmp : X → X → Ordering) (P : X → Type 0) (x : X) (ys : List X) → P x → AllByRecursion P ys → AllByRecursion P (put_sorted cmp x ys)
all-put cmp P x [] here all = (here, tt)
all-put cmp P x (y ∷ ys) here all = by (is_gt (cmp x y)) (all-put cmp P x ys here all.1)
  where
    by : (b : Bool) → AllByRecursion P (put_sorted cmp x ys) → AllByRecursion P (if b then y ∷ put_sorted cmp x ys else x ∷ y ∷ ys)
    by true later = (all.0, later)
    by false later = (here, all)

all-sorted : {X : Type 0} (cmp : X → X → Ordering) (P : X → Type 0) (xs : List X) → AllByRecursion P xs → AllByRecursion P (sorted cmp xs)
all-sorted cmp P [] all = tt
all-sorted cmp P (x ∷ xs) all = all-put cmp P x (sorted cmp xs) all.0 (all-sorted cmp P xs all.1)

gt-less : (o : Ordering) → is_gt (ordering_then o Less) ≡ is_gt o
gt-less Less = refl
gt-less Equal = refl
gt-less Greater = refl

gt-below : (R : ℕ → ℕ → Ordering) (x y : ℕ) → x < y → is_gt (then_cmp R nat_cmp x y) ≡ is_gt (R x y)
gt-below R x y low = ap (λ o. is_gt (ordering_then (R x y) o)) (sym (nat_cmp_is x y Less low)) ∙ gt-less (R x y)

put-same : (R : ℕ → ℕ → Ordering) (x : ℕ) (ys : List ℕ) → AllByRecursion (λ y. x < y) ys → put_sorted (then_cmp R nat_cmp) x ys ≡ put_sorted R x ys
put-same R x [] low = refl
put-same R x (y ∷ ys) low =
    ap (λ b. if b then y ∷ put_sorted (then_cmp R nat_cmp) x ys else x ∷ y ∷ ys) (gt-below R x y low.0)
    ∙ ap (λ l. if is_gt (R x y) then y ∷ l else x ∷ y ∷ ys) (put-same R x ys low.1)

sorted-same : (R : ℕ → ℕ → Ordering) (xs : List ℕ) → Rises xs → sorted (then_cmp R nat_cmp) xs ≡ sorted R xs
sorted-same R [] up = refl
sorted-same R (x ∷ xs) up =
    put-same R x (sorted (then_cmp R nat_cmp) xs) (all-sorted (then_cmp R nat_cmp) (λ y. x < y) xs up.0) ∙ ap (put_sorted R x) (sorted-same R xs up.1)

-- ---- a number ties with itself alone

apart : (o p : Ordering) → (not (is_lt (ordering_then o p)) && not (is_lt (ordering_then (ordering_reverse o) (ordering_reverse p)))) ≡ true → p ≡ Equal
apart Less p h = cc
apart Greater p h = cc
apart Equal Less h = cc
apart Equal Equal h = refl
apart Equal Greater h = cc

ties-same : (R : ℕ → ℕ → Ordering) → IsTotalOrder R → (t y : ℕ) → ties (λ a b. is_lt (then_cmp R nat_cmp a b)) t y ≡ true → t ≡ y
ties-same R total t y h =
    let back : then_cmp R nat_cmp y t ≡ ordering_then (ordering_reverse (R t y)) (ordering_reverse (nat_cmp t y)) =
    ap (λ o. ordering_then o (nat_cmp y t)) (total.antisymm y t) ∙ ap (ordering_then (ordering_reverse (R t y))) (nat_cmp_total.antisymm y t) in
    nat_cmp-IsAntisymmetric t y (apart (R t y) (nat_cmp t y) (ap (λ o. not (is_lt (ordering_then (R t y) (nat_cmp t y))) && not (is_lt o)) (sym back) ∙ h))

-- ---- lists of the same elements have each of them as often

only : (q : ℕ → Bool) (t : ℕ) → ((y : ℕ) → q y ≡ true → t ≡ y) → (xs : List ℕ) → filter q xs ≡ replicate (sum_by (λ y. if q y then 1 else 0) xs) t
only q t same [] = refl
only q t same (x ∷ xs) = by (q x) refl (only q t same xs) ∙ ap (λ n. replicate n t) (sym (sum_by-cons (λ y. if q y then 1 else 0) x xs))
  where
    by : (b : Bool) → q x ≡ b → filter q xs ≡ replicate (sum_by (λ y. if q y then 1 else 0) xs) t
        → cond b (x ∷ filter q xs) (filter q xs) ≡ replicate ((if b then 1 else 0) + sum_by (λ y. if q y then 1 else 0) xs) t
    by true is rest =
        let next : 1 + sum_by (λ y. if q y then 1 else 0) xs ≡ suc (sum_by (λ y. if q y then 1 else 0) xs) = omega arith in
        rw (next, ← same x is) (ap (λ l. t ∷ l) rest)
    by false is rest = rest ∙ ap (λ n. replicate n t) (sym (zero-add (sum_by (λ y. if q y then 1 else 0) xs)))

filter-both : {X : Type 0} (p q : X → Bool) (xs : List X) → filter q (filter p xs) ≡ filter (λ x. p x && q x) xs
filter-both p q [] = refl
filter-both p q (x ∷ xs) = by (p x) (filter-both p q xs)
  where
    by : (b : Bool) → filter q (filter p xs) ≡ filter (λ y. p y && q y) xs → filter q (cond b (x ∷ filter p xs) (filter p xs)) ≡ cond (b && q x) (x ∷ filter (λ y. p y && q y) xs) (filter (λ y. p y && q y) xs)
    by true same = ap (λ l. cond (q x) (x ∷ l) l) same
    by false same = same

stable : (R : ℕ → ℕ → Ordering) → IsTotalOrder R → (p : ℕ → Bool) (xs ys : List ℕ) → IsPermutation xs ys → IsStableBy (λ a b. is_lt (then_cmp R nat_cmp a b)) (filter p xs) (filter p ys)
stable R total p xs ys moved t =
    let q : ℕ → Bool = λ y. p y && ties (λ a b. is_lt (then_cmp R nat_cmp a b)) t y in
    let same : (y : ℕ) → q y ≡ true → t ≡ y = λ y h. ties-same R total t y (and_parts (p y) _ h).1 in
    filter-both p (ties (λ a b. is_lt (then_cmp R nat_cmp a b)) t) ys ∙ only q t same ys
    ∙ ap (λ n. replicate n t) (sum_by-IsPermutation (λ y. if q y then 1 else 0) xs ys moved)
    ∙ sym (only q t same xs) ∙ sym (filter-both p (ties (λ a b. is_lt (then_cmp R nat_cmp a b)) t) xs)

pub by_index : (R : ℕ → ℕ → Ordering) → IsTotalOrder R → (p : ℕ → Bool) (count : ℕ) (numbers : List ℕ) → IsPermutation (range_with_len 0 count) numbers → IsSorted (then_cmp R nat_cmp) numbers
    → filter p numbers ≡ sorted R (filter p (range_with_len 0 count))
by_index R total p count numbers moved up =
    let both : IsTotalOrder (then_cmp R nat_cmp) = then_total total nat_cmp_total in
    let all : List ℕ = range_with_len 0 count in
    sorted-unique (then_cmp R nat_cmp) both (filter p all) (filter p numbers)
    (IsSortedBy-filter (λ a b. is_lt (then_cmp R nat_cmp a b)) (ranks_by both (λ a. a)) p numbers up) (stable R total p all numbers moved)
    ∙ sorted-same R (filter p all) (rises-filter p all (rises-range 0 count))

-- ---- the same at rows

keys-columns : (row : ℕ → Env) (columns : List ℕ) (m n : ℕ) → columns_order row columns m n ≡ keys_order (rising_keys columns) (row m) (row n)
keys-columns row [] m n = refl
keys-columns row (c ∷ columns) m n = ap (ordering_then (order (row m c) (row n c))) (keys-columns row columns m n)

pub rows_by_index : (row : ℕ → Env) (columns : List ℕ) (p : Env → Bool) (numbers : List ℕ)
    → map row (sorted (columns_order row columns) (filter (λ n. p (row n)) numbers)) ≡ sorted (keys_order (rising_keys columns)) (filter p (map row numbers))
rows_by_index row columns p numbers =
    (λ i. map row (sorted (λ m n. keys-columns row columns m n i) (filter (λ n. p (row n)) numbers)))
    ∙ map-sorted row (keys_order (rising_keys columns)) (filter (λ n. p (row n)) numbers) ∙ ap (sorted (keys_order (rising_keys columns))) (sym (filter-map p row numbers))

pub reported : {E : Type 0} (result : Result Relation E) (K : List ℕ) (X Y : List Env) (e : Env) → IfOk result (λ r. r.heading.columns ≡ K) → IfOk result (λ r. rows_of r e ≡ X) → X ≡ Y → IfOk result (IsOutput K Y e)
reported (Ok r) K X Y e columns rows is = record { columns_are = columns; rows_are = rows ∙ is }
reported (Err x) K X Y e columns rows is = tt
