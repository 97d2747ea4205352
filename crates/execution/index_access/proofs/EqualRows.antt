-- Rows with one key tie, so that an index has them in the order of their numbers.
use Rattle.std.proofs.Common.{◌≡◌, refl, ap, ◌∙◌, ℕ, ◌<◌, Bool, true, false, cond, if◌then◌else◌, List, [], ◌∷◌, length, filter, arith}
use Rattle.std.specs.List.{range_with_len}
use Rattle.std.specs.declared.cmp.Ordering.{Ordering}
use Rattle.std.specs.declared.cmp.Ordering.TheVariants.{Equal}
use Rattle.std.specs.Ordering.{is_gt, ordering_reverse, ordering_then}
use Rattle.values.specs.declared.truth.Comparison.TheVariants as by
use Rattle.values.specs.declared.value.Value.{Value}
use Rattle.values.specs.Order.{order}
use Rattle.values.specs.Truth.{compare, is_true}
use Rattle.values.proofs.Orders.{order_total}
use Rattle.algebra.specs.Bags.{Env}
use Rattle.physical.specs.Sorts.{put_sorted, sorted}
use Rattle.index_access.specs.Cuts.{AreByIndex, columns_order}
use Rattle.index_access.specs.Probes.{Begins}
use Rattle.index_access.proofs.CutOrders.{columns_total}
use Rattle.index_access.proofs.Probes.{equal-order}
use Rattle.index_access.proofs.Sorting.{by_index}

-- ---- rows with one key

same-value : (a b v : Value) → is_true (compare by.Equal a v) ≡ true → is_true (compare by.Equal b v) ≡ true → order a b ≡ Equal
same-value a b v first second =
    order_total.congr a v b (equal-order a v first) ∙ order_total.antisymm v b ∙ ap ordering_reverse (equal-order b v second)

one-key : (row : ℕ → Env) (columns : List ℕ) (key : List Value) (m n : ℕ) → (length key < length columns → ⊥) → Begins (row m) columns key → Begins (row n) columns key → columns_order row columns m n ≡ Equal
one-key row [] key m n whole first second = refl
one-key row (c ∷ columns) [] m n whole first second = absurd (whole (omega arith))
one-key row (c ∷ columns) (v ∷ key) m n whole first second =
    ap (λ o. ordering_then o (columns_order row columns m n)) (same-value (row m c) (row n c) v first.0 second.0)
    ∙ one-key row columns key m n (λ less. whole (omega (arith, less))) first.1 second.1

-- ---- a stable sort leaves elements that tie as they stand

put-tied : {X : Type 0} (R : X → X → Ordering) (p : X → Bool) (x : X) → ((y : X) → p y ≡ true → R x y ≡ Equal) → (xs : List X) → put_sorted R x (filter p xs) ≡ x ∷ filter p xs
put-tied R p x tie [] = refl
put-tied R p x tie (y ∷ xs) = by (p y) (tie y) (put-tied R p x tie xs)
  where
    by : (b : Bool) → (b ≡ true → R x y ≡ Equal) → put_sorted R x (filter p xs) ≡ x ∷ filter p xs → put_sorted R x (cond b (y ∷ filter p xs) (filter p xs)) ≡ x ∷ cond b (y ∷ filter p xs) (filter p xs)
    by true here rest = ap (λ o. if is_gt o then y ∷ put_sorted R x (filter p xs) else x ∷ y ∷ filter p xs) (here refl)
    by false here rest = rest

tied-sorted : {X : Type 0} (R : X → X → Ordering) (p : X → Bool) → ((x y : X) → p x ≡ true → p y ≡ true → R x y ≡ Equal) → (xs : List X) → sorted R (filter p xs) ≡ filter p xs
tied-sorted R p tie [] = refl
tied-sorted R p tie (x ∷ xs) = by (p x) refl (tied-sorted R p tie xs)
  where
    by : (b : Bool) → p x ≡ b → sorted R (filter p xs) ≡ filter p xs → sorted R (cond b (x ∷ filter p xs) (filter p xs)) ≡ cond b (x ∷ filter p xs) (filter p xs)
    by true is rest = ap (put_sorted R x) rest ∙ put-tied R p x (λ y. tie x y is) xs
    by false is rest = rest

-- ---- rows of an index

pub in_own_order : (row : ℕ → Env) (columns : List ℕ) (key : List Value) (p : ℕ → Bool) (count : ℕ) (numbers : List ℕ) → (length key < length columns → ⊥) → ((n : ℕ) → p n ≡ true → Begins (row n) columns key)
    → AreByIndex row columns (range_with_len 0 count) numbers → filter p numbers ≡ filter p (range_with_len 0 count)
in_own_order row columns key p count numbers whole begins index =
    by_index (columns_order row columns) (columns_total row columns) p count numbers index.each index.sorted
    ∙ tied-sorted (columns_order row columns) p (λ m n first second. one-key row columns key m n whole (begins m first) (begins n second)) (range_with_len 0 count)
