-- Lists of columns as sets.
use Rattle.std.proofs.Common.{◌≡◌, refl, zero, suc, ap, sym, ◌∙◌, inl, inr, ℕ, ◌+◌, ◌-◌, ◌<◌, ◌≤◌, Bool, true, false, ◌||◌, ◌&&◌, nat_le, cond, nat_lt, ◌==◌, List, [], ◌∷◌, ◌++◌, length, get_or, Result, Ok, Err, MatchResult, is_ok, arith}
use Rattle.std.specs.List.{AllByRecursion, Contains, range_with_len}
use Rattle.std.specs.List.Sorted.{IsPermutation, IsStrictlyIncreasing, IsStrictlySortedBy, IsBinarySearchResult}
use Rattle.std.specs.Cmp.{both_ways}
use Rattle.std.specs.Ordering.{nat_cmp}
use Rattle.std.specs.declared.cmp.Ordering.TheVariants.{Less, Equal, Greater}
use Rattle.std.proofs.lemmas.Bool.{cases_order, cases_lt, eqb-true, eqb-false, eq-eqb, ne_eqb, ltb-true, ltb-false, lt-ltb, le-ltb, or_right, or_cases, cond_both, cases_eq, false_from_ne_true, and_right, le-leb, lt-leb}
use Rattle.std.proofs.lemmas.Map.Keys.{below_from_sorted, sorted_from_strictly_increasing}
use Rattle.std.proofs.lemmas.List.{get_or_default, map-id}
use Rattle.std.proofs.lemmas.List.FromFn.{length-range_with_len, get_or-range_with_len, map-range_with_len_more}
use Rattle.std.proofs.lemmas.List.Sorted.{searched, Contains-permutation, IsPermutation-sym}
use Rattle.algebra.specs.Columns.{has, insert, rising}
use Rattle.algebra.specs.Expressions.{are_different}
use Rattle.algebra.proofs.Lists.{cons-same}

-- each element is greater than x
abbrev Above : ℕ → List ℕ → Type 0
Above x ys = AllByRecursion (λ y. x < y) ys

-- each element is below all later ones
abbrev Rises : List ℕ → Type 0
Rises [] = Unit {0}
Rises (x ∷ xs) = Above x xs × Rises xs

less : (x y : ℕ) → nat_cmp x y ≡ Less → x < y
less x y e = by (nat_lt x y) refl e
  where
    by : (b : Bool) → nat_lt x y ≡ b → cond b Less (cond (x == y) Equal Greater) ≡ Less → x < y
    by true is e = ltb-true x y is
    by false is e = or (x == y) e
      where
        or : (b : Bool) → cond b Equal Greater ≡ Less → x < y
        or true e = cc
        or false e = cc

all-less : (x : ℕ) (ys : List ℕ) → AllByRecursion (λ y. nat_cmp x y ≡ Less) ys → Above x ys
all-less x [] all = tt
all-less x (y ∷ ys) all = (less x y all.0, all-less x ys all.1)

rises-sorted : (xs : List ℕ) → IsStrictlySortedBy nat_cmp xs → Rises xs
unfolding IsStrictlySortedBy
rises-sorted [] s = tt
rises-sorted (x ∷ xs) s = (all-less x xs s.0, rises-sorted xs s.1)

pub rises : (xs : List ℕ) → IsStrictlyIncreasing xs → Rises xs
rises xs s = rises-sorted xs (sorted_from_strictly_increasing xs s)

-- what is at most x is not among greater ones
above-disjoint : (x c : ℕ) (ys : List ℕ) → c ≤ x → Above x ys → has ys c ≡ false
above-disjoint x c [] h all = refl
above-disjoint x c (y ∷ ys) h all = rw (ne_eqb y c (λ e. absurd (omega (arith, all.0, e, h)))) (above-disjoint x c ys h all.1)

above-more : (x y : ℕ) (ys : List ℕ) → x < y → Above y ys → Above x ys
above-more x y [] h all = tt
above-more x y (z ∷ ys) h all = let more : y < z = all.0 in (omega arith, above-more x y ys h all.1)

above-insert : (x c : ℕ) (ys : List ℕ) → x < c → Above x ys → Above x (insert c ys)
above-insert x c [] h all = (h, tt)
above-insert x c (y ∷ ys) h all =
    cond_both (nat_lt c y) _ _ (Above x) (λ is. (h, all)) (λ is.
    cond_both (c == y) _ _ (Above x) (λ eq. all) (λ eq. (all.0, above-insert x c ys h all.1)))

rises-insert : (c : ℕ) (xs : List ℕ) → Rises xs → Rises (insert c xs)
rises-insert c [] r = (tt, tt)
rises-insert c (x ∷ xs) r =
    cond_both (nat_lt c x) _ _ Rises
    (λ is. let lt : c < x = ltb-true c x is in ((lt, above-more c x xs lt r.0), r))
    (λ is. cond_both (c == x) _ _ Rises (λ eq. r) (λ eq.
    let le : x ≤ c = ltb-false c x is in
    let ne : (c ≡ x → ⊥) = eqb-false c x eq in
    let lt : x < c = omega (arith, le, ne) in
    (above-insert x c xs lt r.0, rises-insert c xs r.1)))

pub rises-rising : (cs : List ℕ) → Rises (rising cs)
rises-rising [] = tt
rises-rising (c ∷ cs) = rises-insert c (rising cs) (rises-rising cs)

increasing-rises : (xs : List ℕ) → Rises xs → IsStrictlyIncreasing xs
increasing-rises [] r k h = absurd (omega (arith, h))
increasing-rises (x ∷ []) r k h = absurd (omega (arith, h))
increasing-rises (x ∷ y ∷ xs) r zero h = r.0.0
increasing-rises (x ∷ y ∷ xs) r (suc k) h = let next : suc k + 1 ≡ suc (k + 1) = omega arith in rw next (increasing-rises (y ∷ xs) r.1 k (omega (arith, h)))

pub increasing-rising : (cs : List ℕ) → IsStrictlyIncreasing (rising cs)
increasing-rising cs = increasing-rises (rising cs) (rises-rising cs)

different-rises : (xs : List ℕ) → Rises xs → are_different xs ≡ true
different-rises [] r = refl
different-rises (x ∷ xs) r = rw (above-disjoint x x xs (omega arith) r.0) (different-rises xs r.1)

pub different-rising : (cs : List ℕ) → are_different (rising cs) ≡ true
different-rising cs = different-rises (rising cs) (rises-rising cs)

pub or-turn : (a b c : Bool) → (a || (b || c)) ≡ (b || (a || c))
or-turn true true c = refl
or-turn true false c = refl
or-turn false true c = refl
or-turn false false c = refl

or-twice : (a b : Bool) → (a || (a || b)) ≡ (a || b)
or-twice true b = refl
or-twice false b = refl

has-insert : (c k : ℕ) (xs : List ℕ) → has (insert c xs) k ≡ ((c == k) || has xs k)
has-insert c k [] = refl
has-insert c k (x ∷ xs) =
    let P : List ℕ → Type 0 = λ ys. has ys k ≡ ((c == k) || ((x == k) || has xs k)) in
    cond_both (nat_lt c x) _ _ P (λ is. refl) (λ is. cond_both (c == x) _ _ P
    (λ eq. rw (eqb-true c x eq) (sym (or-twice (x == k) (has xs k))))
    (λ eq. ap (λ b. (x == k) || b) (has-insert c k xs) ∙ or-turn (x == k) (c == k) (has xs k)))

pub has-rising : (k : ℕ) (cs : List ℕ) → has (rising cs) k ≡ has cs k
has-rising k [] = refl
has-rising k (c ∷ cs) = has-insert c k (rising cs) ∙ ap (λ b. (c == k) || b) (has-rising k cs)

pub has-first : (x : ℕ) (xs : List ℕ) → has (x ∷ xs) x ≡ true
has-first x xs = rw (eq-eqb x x refl) refl

above-disjoint-all : (x y : ℕ) (ys : List ℕ) → x < y → Above y ys → has (y ∷ ys) x ≡ false
above-disjoint-all x y ys lt all = rw (ne_eqb y x (λ e. absurd (omega (arith, lt, e)))) (above-disjoint y x ys (omega (arith, lt)) all)

same-rest : (x y : ℕ) (xs ys : List ℕ) → x ≡ y → Above x xs → Above y ys → ((k : ℕ) → has (x ∷ xs) k ≡ has (y ∷ ys) k) → (k : ℕ) → has xs k ≡ has ys k
same-rest x y xs ys e a b same k = by (x == k) refl (same k)
  where
    by : (t : Bool) → (x == k) ≡ t → (t || has xs k) ≡ ((y == k) || has ys k) → has xs k ≡ has ys k
    by true is h = let f : x ≡ k = eqb-true x k is in above-disjoint x k xs (omega (arith, f)) a ∙ sym (above-disjoint y k ys (omega (arith, e, f)) b)
    by false is h = h ∙ ap (λ t. t || has ys k) (ap (λ z. z == k) (sym e) ∙ is)

-- a set has one rising list
pub one-rising : (xs ys : List ℕ) → Rises xs → Rises ys → ((k : ℕ) → has xs k ≡ has ys k) → xs ≡ ys
one-rising [] [] r s same = refl
one-rising [] (y ∷ ys) r s same = absurd (cc (same y, has-first y ys))
one-rising (x ∷ xs) [] r s same = absurd (cc (same x, has-first x xs))
one-rising (x ∷ xs) (y ∷ ys) r s same = elim (cases_order x y) [
  | inl e ↦ let rest : (k : ℕ) → has xs k ≡ has ys k = λ k. same-rest x y xs ys e r.0 s.0 same k in cons-same e (one-rising xs ys r.1 s.1 rest)
  | inr o ↦ elim o [
    | inl lt ↦ absurd (cc (same x, has-first x xs, above-disjoint-all x y ys lt s.0))
    | inr gt ↦ absurd (cc (same y, has-first y ys, above-disjoint-all y x xs gt r.0))
  ]
]

pub rising-again : (ns : List ℕ) → IsStrictlyIncreasing ns → rising ns ≡ ns
rising-again ns sorted = one-rising (rising ns) ns (rises-rising ns) (rises ns sorted) (λ k. has-rising k ns)

-- ---- membership

pub contains-has : (xs : List ℕ) (c : ℕ) → Contains xs c → has xs c ≡ true
contains-has [] c (k, h, is) = absurd (omega (arith, h))
contains-has (x ∷ xs) c (zero, h, is) = rw (eq-eqb x c is) refl
contains-has (x ∷ xs) c (suc k, h, is) = or_right (x == c) (has xs c) (contains-has xs c (k, omega (arith, h), is))

pub has-contains : (xs : List ℕ) (c : ℕ) → has xs c ≡ true → Contains xs c
has-contains [] c e = cc
has-contains (x ∷ xs) c e = elim (or_cases (x == c) (has xs c) e) [
  | inl is ↦ (0, omega arith, eqb-true x c is)
  | inr more ↦ let found : Contains xs c = has-contains xs c more in (suc found.0, omega (arith, found.1), found.2)
]

-- lists with the same elements are the same set
pub same-has : (xs ys : List ℕ) → ((c : ℕ) → Contains xs c → Contains ys c) → ((c : ℕ) → Contains ys c → Contains xs c) → (c : ℕ) → has xs c ≡ has ys c
same-has xs ys to from c = both_ways (has xs c) (has ys c) (λ e. contains-has ys c (to c (has-contains xs c e))) (λ e. contains-has xs c (from c (has-contains ys c e)))

-- lists with the same elements in another order are one set
pub rising-moved : (xs ys : List ℕ) → IsPermutation xs ys → rising xs ≡ rising ys
rising-moved xs ys moved = one-rising (rising xs) (rising ys) (rises-rising xs) (rises-rising ys) (λ k.
    has-rising k xs ∙ same-has xs ys (λ c. Contains-permutation xs ys c moved) (λ c. Contains-permutation ys xs c (IsPermutation-sym xs ys moved)) k ∙ sym (has-rising k ys))

-- what a binary search says of a rising list
pub found-has : (xs : List ℕ) (c : ℕ) (r : Result ℕ ℕ) → IsStrictlyIncreasing xs → IsBinarySearchResult (λ y. nat_cmp y c) xs r → is_ok r ≡ has xs c
found-has xs c r rises h = by r (searched xs c r h (λ i j le lt. elim (cases_eq i j) [
  | inl e ↦ rw e (omega arith)
  | inr ne ↦ let below : get_or xs i 0 < get_or xs j 0 = below_from_sorted xs i j 0 (sorted_from_strictly_increasing xs rises) (omega (arith, le, ne)) lt in omega (arith, below)
]))
  where
    by : (r : Result ℕ ℕ) → MatchResult r (λ i. (i < length xs) × (get_or xs i 0 ≡ c)) (λ i. (i ≤ length xs) × ((k : ℕ) → k < i → get_or xs k 0 < c) × ((k : ℕ) → i ≤ k → k < length xs → c < get_or xs k 0)) → is_ok r ≡ has xs c
    by (Ok i) m = sym (contains-has xs c (i, m.0, get_or_default xs i c 0 m.0 ∙ m.1))
    by (Err i) m = sym (false_from_ne_true (has xs c) (λ e.
        let found : Contains xs c = has-contains xs c e in
        let is : get_or xs found.0 0 ≡ c = get_or_default xs found.0 0 c found.1 ∙ found.2 in
        elim (cases_lt found.0 i) [
          | inl lt ↦ let low : get_or xs found.0 0 < c = m.1 found.0 lt in omega (arith, low, is)
          | inr ge ↦ let high : c < get_or xs found.0 0 = m.2 found.0 ge found.1 in omega (arith, high, is)
        ]))

-- the columns of a run
pub range_has : (first n c : ℕ) → has (range_with_len first n) c ≡ (nat_le first c && nat_lt (c - first) n)
range_has first zero c = sym (and_right (nat_le first c) (nat_lt (c - first) 0) (le-ltb (c - first) 0 (omega arith)))
range_has first (suc n) c = elim (cases_order first c) [
  | inl e ↦ rw (eq-eqb first c e, le-leb first c (omega (arith, e)), lt-ltb (c - first) (suc n) (omega (arith, e))) refl
  | inr o ↦ elim o [
    | inl lt ↦ rw (ne_eqb first c (λ e. absurd (omega (arith, e, lt))), le-leb first c (omega (arith, lt)))
        (range_has (first + 1) n c ∙ rw (le-leb (first + 1) c (omega (arith, lt))) (both_ways _ _
        (λ h. lt-ltb (c - first) (suc n) (let k : c - (first + 1) < n = ltb-true _ _ h in omega (arith, k, lt)))
        (λ h. lt-ltb (c - (first + 1)) n (let k : c - first < suc n = ltb-true _ _ h in omega (arith, k, lt)))))
    | inr gt ↦ rw (ne_eqb first c (λ e. absurd (omega (arith, e, gt))), lt-leb first c (omega (arith, gt)))
        (range_has (first + 1) n c ∙ rw (lt-leb (first + 1) c (omega (arith, gt))) refl)
  ]
]

pub increasing_range : (first n : ℕ) → IsStrictlyIncreasing (range_with_len first n)
increasing_range first n k h =
    let in_range : k + 1 < n = simp length-range_with_len at h in
    rw (get_or-range_with_len first n k 0 (omega (arith, in_range)), get_or-range_with_len first n (k + 1) 0 in_range) (omega arith)

pub range_more : (first n : ℕ) → range_with_len first (n + 1) ≡ range_with_len first n ++ (first + n) ∷ []
range_more first n = simp map-id at (map-range_with_len_more (λ x. x) first n (first + n) refl)

-- a list of numbers in a run, with the next one pushed
pub run_more : (first n x : ℕ) (xs all : List ℕ) → all ≡ xs ++ x ∷ [] → xs ≡ range_with_len first n → x ≡ first + n → all ≡ range_with_len first (n + 1)
run_more first n x xs all is so_far next = rw (is, so_far, next, range_more) refl
