-- Where the search for a condition's place ends in conditions that stand in order.
use Rattle.std.proofs.Common.{◌≡◌, refl, ap, sym, ◌∙◌, ℕ, zero, suc, ◌+◌, ◌≤◌, ◌<◌, true, false, List, [], ◌∷◌, drop, length, Ordering, Less, Equal, Greater, arith}
use Rattle.std.specs.List.{AllByRecursion, slice_index_or, position_or_len}
use Rattle.std.specs.List.Sorted.{IsPartitionedBy}
use Rattle.std.specs.Ordering.{is_lt}
use Rattle.algebra.specs.declared.condition.Condition.{Condition}
use Rattle.algebra.specs.ConditionEquality.{same_condition}
use Rattle.algebra.specs.ConjunctOrder.{goes_before, ends_search, IsInOrder}
use Rattle.algebra.proofs.ConjunctLists.{order, total, turned, less-only, before-not-behind, before-not-same, same-turned}

-- what a condition doesn't go before, goes before what the condition goes before
later-before : (d e c : Condition) → goes_before e d ≡ false → goes_before e c ≡ true → goes_before d c ≡ true
unfolding goes_before
later-before d e c later first = by (order e d) refl
  where
    by : (o : Ordering) → order e d ≡ o → is_lt (order d c) ≡ true
    by Less is = absurd (let never : true ≡ false = sym (ap is_lt is) ∙ later in cc)
    by Equal is = ap is_lt (total.congr d e c (turned e d Equal is) ∙ less-only (order e c) first)
    by Greater is = ap is_lt (total.trans d e c (turned e d Greater is) (less-only (order e c) first))

read : {X : Type 0} (P : X → Type 0) (xs : List X) (n : ℕ) (x : X) → AllByRecursion P xs → n < length xs → P (slice_index_or xs n x)
read P [] n x all within = absurd (omega (arith, within))
read P (y ∷ ys) zero x all within = all.0
read P (y ∷ ys) (suc n) x all within = read P ys n x all.1 (omega (arith, within))

-- those that go before a condition stand first
pub parted : (c : Condition) (ds : List Condition) → IsInOrder ds → IsPartitionedBy (λ d. goes_before d c) ds
parted c [] ordered i j x below within before = absurd (omega (arith, within))
parted c (d ∷ ds) ordered zero zero x below within before = before
parted c (d ∷ ds) ordered zero (suc j) x below within before =
    later-before d (slice_index_or ds j x) c (read (λ e. (goes_before e d ≡ false) × (same_condition d e ≡ false)) ds j x ordered.0 (omega (arith, within))).0 before
parted c (d ∷ ds) ordered (suc i) zero x below within before = absurd (omega (arith, below))
parted c (d ∷ ds) ordered (suc i) (suc j) x below within before = parted c ds ordered.1 i j x (omega (arith, below)) (omega (arith, within)) before

passed : (c d : Condition) → goes_before d c ≡ true → ends_search c d ≡ false
passed c d before =
    let other : same_condition c d ≡ false = same-turned d c (before-not-same d c before) in
    let behind : goes_before c d ≡ false = before-not-behind d c before in
    rw (other, behind) refl

-- the search passes those that go before the condition
pub search-behind : (c : Condition) (ds : List Condition) (n : ℕ) → n ≤ length ds → ((k : ℕ) (x : Condition) → k < n → goes_before (slice_index_or ds k x) c ≡ true)
    → n + position_or_len (ends_search c) (drop n ds) ≡ position_or_len (ends_search c) ds
search-behind c ds zero within before = omega arith
search-behind c [] (suc n) within before = absurd (omega (arith, within))
search-behind c (d ∷ ds) (suc n) within before =
    let here : ends_search c d ≡ false = passed c d (before 0 d (omega arith)) in
    let more : n + position_or_len (ends_search c) (drop n ds) ≡ position_or_len (ends_search c) ds = search-behind c ds n (omega (arith, within)) (λ k x lt. before (suc k) x (omega (arith, lt))) in
    rw here (omega (arith, more))
