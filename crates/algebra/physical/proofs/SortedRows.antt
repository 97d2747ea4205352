-- Rows by the keys of an order: the order is total, and a sort keeps the bag.
use Rattle.std.proofs.Common.{◌≡◌, refl, ap, ◌∙◌, ℕ, ◌+◌, Bool, true, false, if◌then◌else◌, List, [], ◌∷◌, arith}
use Rattle.std.specs.declared.cmp.Ordering.{Ordering}
use Rattle.std.specs.Ordering.{is_gt}
use Rattle.std.specs.Cmp.{IsTotalOrder}
use Rattle.std.proofs.lemmas.Cmp.{on_total}
use Rattle.values.proofs.Orders.{directed_total, by_keys_total}
use Rattle.algebra.specs.Bags.{Env, Bag, total, SameRows, SameBag}
use Rattle.physical.specs.declared.plan.OrderKey.{OrderKey}
use Rattle.physical.specs.Sorts.{put_sorted, sorted, key_order, keys_order}

-- ---- the order of the keys

pub keys_total : (keys : List OrderKey) → IsTotalOrder (keys_order keys)
keys_total = by_keys_total key_order (λ k. on_total (λ (r : Env). r k.column) (directed_total k.descending))

-- ---- a sort keeps the bag

total-put_sorted : (f : Env → ℕ) (cmp : Env → Env → Ordering) (x : Env) (ys : List Env) → total f (put_sorted cmp x ys) ≡ f x + total f ys
total-put_sorted f cmp x [] = refl
total-put_sorted f cmp x (y ∷ ys) = by (is_gt (cmp x y)) (total-put_sorted f cmp x ys)
  where
    by : (b : Bool) → total f (put_sorted cmp x ys) ≡ f x + total f ys → total f (if b then y ∷ put_sorted cmp x ys else x ∷ y ∷ ys) ≡ f x + (f y + total f ys)
    by true later = omega (arith, later)
    by false later = refl

pub same_rows-sorted : (cmp : Env → Env → Ordering) (rows : List Env) → SameRows (sorted cmp rows) rows
same_rows-sorted cmp [] f = refl
same_rows-sorted cmp (x ∷ rows) f = total-put_sorted f cmp x (sorted cmp rows) ∙ ap (λ n. f x + n) (same_rows-sorted cmp rows f)

pub same_bag-sorted : (cmp : Env → Env → Ordering) (a : Bag) → SameBag (λ e. sorted cmp (a e)) a
same_bag-sorted cmp a e = same_rows-sorted cmp (a e)
