-- Rows by the keys of an order, and stable sorts (D. Knuth, The Art of Computer Programming, volume 3, section 5.2.1:
-- straight insertion). Null is the least value: this project's profile of SQL.
use Rattle.std.specs.Prelude.{if◌then◌else◌, List, [], ◌∷◌}
use Rattle.std.specs.declared.cmp.Ordering.{Ordering}
use Rattle.std.specs.Ordering.{is_gt, on}
use Rattle.values.specs.Order.{directed, by_keys}
use Rattle.algebra.specs.Bags.{Env}
use Rattle.physical.specs.declared.plan.OrderKey.{OrderKey}

-- the order of the rows' values in the key's column, turned round if it descends
abbrev pub key_order : OrderKey → Env → Env → Ordering
key_order k = on (λ r. r k.column) (directed k.descending)

-- a later key decides where the earlier ones do not
abbrev pub keys_order : List OrderKey → Env → Env → Ordering
keys_order = by_keys key_order

-- an element put before those that it doesn't go after
abbrev pub put_sorted : {X : Type 0} → (X → X → Ordering) → X → List X → List X
put_sorted cmp x [] = x ∷ []
put_sorted cmp x (y ∷ ys) = if is_gt (cmp x y) then y ∷ put_sorted cmp x ys else x ∷ y ∷ ys

-- the elements in order, those that tie as they stood
abbrev pub sorted : {X : Type 0} → (X → X → Ordering) → List X → List X
sorted cmp [] = []
sorted cmp (x ∷ xs) = put_sorted cmp x (sorted cmp xs)
