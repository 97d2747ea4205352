-- A cut parts rows that are sorted.
use Rattle.std.proofs.Common.{◌≡◌, refl, ap, sym, ◌∙◌, ℕ, Bool, true, false, List, [], ◌∷◌, get_or}
use Rattle.std.specs.declared.cmp.Ordering.{Ordering}
use Rattle.std.specs.declared.cmp.Ordering.TheVariants.{Less, Equal, Greater}
use Rattle.std.specs.Ordering.{is_lt, is_gt, nat_cmp, ordering_then}
use Rattle.std.specs.Cmp.{IsTotalOrder, IsStrictWeakOrder}
use Rattle.std.specs.List.Sorted.{IsSorted, IsPartitionedBy}
use Rattle.std.proofs.lemmas.Cmp.{alike_right, nat_cmp_total, on_total, then_total}
use Rattle.std.proofs.lemmas.List.Sorted.{ranks_by, sorted_far}
use Rattle.values.specs.declared.value.Value.{Value}
use Rattle.values.specs.Order.{order}
use Rattle.values.proofs.Orders.{by_keys_total, is_gt-reverse, order_total}
use Rattle.algebra.specs.Bags.{Env}
use Rattle.index_access.specs.Cuts.{column_order, columns_order, number_order, key_order, goes_before}

-- ---- the order

pub columns_total : (row : ℕ → Env) (columns : List ℕ) → IsTotalOrder (columns_order row columns)
columns_total row columns = by_keys_total (column_order row) (λ c. on_total (λ (n : ℕ). row n c) order_total) columns

pub number_total : (row : ℕ → Env) (columns : List ℕ) → IsTotalOrder (number_order row columns)
number_total row columns = then_total (columns_total row columns) nat_cmp_total

pub not_gt-first : (o p : Ordering) → is_gt (ordering_then o p) ≡ false → is_gt o ≡ false
not_gt-first Less p h = refl
not_gt-first Equal p h = refl
not_gt-first Greater p h = h

-- ---- what goes before a row that goes before a cut goes before it

pub before-along : (row : ℕ → Env) (behind : Bool) (columns : List ℕ) (key : List Value) (m n : ℕ) → is_gt (columns_order row columns m n) ≡ false
    → goes_before behind (key_order (row n) columns key) ≡ true → goes_before behind (key_order (row m) columns key) ≡ true
before-along row behind [] key m n low h = h
before-along row behind (c ∷ columns) [] m n low h = h
before-along row behind (c ∷ columns) (v ∷ key) m n low h =
    by (order (row m c) (row n c)) (order (row n c) v) refl refl low h (before-along row behind columns key m n)
  where
    by : (a b : Ordering) → order (row m c) (row n c) ≡ a → order (row n c) v ≡ b → is_gt (ordering_then a (columns_order row columns m n)) ≡ false
        → goes_before behind (ordering_then b (key_order (row n) columns key)) ≡ true
        → (is_gt (columns_order row columns m n) ≡ false → goes_before behind (key_order (row n) columns key) ≡ true → goes_before behind (key_order (row m) columns key) ≡ true)
        → goes_before behind (ordering_then (order (row m c) v) (key_order (row m) columns key)) ≡ true
    by Less Less e f low h later = ap (λ o. goes_before behind (ordering_then o (key_order (row m) columns key))) (order_total.trans (row m c) (row n c) v e f)
    by Less Equal e f low h later = ap (λ o. goes_before behind (ordering_then o (key_order (row m) columns key))) (sym (alike_right order_total (row n c) v (row m c) f) ∙ e)
    by Less Greater e f low h later = cc
    by Equal Less e f low h later = ap (λ o. goes_before behind (ordering_then o (key_order (row m) columns key))) (order_total.congr (row m c) (row n c) v e ∙ f)
    by Equal Equal e f low h later = ap (λ o. goes_before behind (ordering_then o (key_order (row m) columns key))) (order_total.congr (row m c) (row n c) v e ∙ f) ∙ later low h
    by Equal Greater e f low h later = cc
    by Greater b e f low h later = cc

pub cut_partitions : (row : ℕ → Env) (behind : Bool) (columns : List ℕ) (key : List Value) (numbers : List ℕ) → IsSorted (number_order row columns) numbers
    → IsPartitionedBy (λ n. goes_before behind (key_order (row n) columns key)) numbers
cut_partitions row behind columns key numbers up i j d le lt before =
    let total : IsTotalOrder (number_order row columns) = number_total row columns in
    let weak : IsStrictWeakOrder (λ m n. is_lt (number_order row columns m n)) = ranks_by total (λ n. n) in
    let m : ℕ = get_or numbers i d in
    let n : ℕ = get_or numbers j d in
    let low : is_gt (number_order row columns m n) ≡ false =
    ap is_gt (total.antisymm m n) ∙ is_gt-reverse (number_order row columns n m) ∙ sorted_far (λ m n. is_lt (number_order row columns m n)) weak numbers up i j d le lt in
    before-along row behind columns key m n (not_gt-first (columns_order row columns m n) (nat_cmp m n) low) before
