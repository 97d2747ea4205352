-- Rows in the order that a plan delivers are in one that the ORDER BY allows.
use Rattle.std.proofs.Common.{◌≡◌, refl, ap, sym, ◌∙◌, subst, ℕ, zero, suc, Bool, true, false, List, [], ◌∷◌, map, take, length, Option, Some, None}
use Rattle.std.specs.Coded.{coded_list}
use Rattle.std.specs.List.{slice_get}
use Rattle.std.specs.Ordering.{is_gt, on, ordering_then}
use Rattle.std.specs.declared.cmp.Ordering.{Ordering}
use Rattle.std.specs.declared.cmp.Ordering.TheVariants.{Equal}
use Rattle.values.specs.declared.value.Value.TheVariants as value
use Rattle.values.specs.Order.{directed}
use Rattle.schema.specs.Databases.{Row}
use Rattle.query.specs.declared.query.SortKey as order_by
use Rattle.query.specs.declared.query.Query.{Query}
use Rattle.query.specs.Rows.{value_at}
use Rattle.query.specs.Answer as asked
use Rattle.query.specs.Answer.{IsAllowed}
use Rattle.algebra.specs.Bags.{Env}
use Rattle.frame.specs.Frames.{query_numbers, query_shown}
use Rattle.algebra.proofs.Same.{same_by-equal}
use Rattle.physical.specs.declared.plan.OrderKey.{OrderKey}
use Rattle.physical.specs.contracts.plan.OrderKey as order_key
use Rattle.physical.specs.declared.plan.Plan.{Plan}
use Rattle.physical.specs.Sorts.{key_order, keys_order}
use Rattle.physical.specs.Orders.{IsOrdered, plan_order}
use Rattle.physical.specs.RequiredOrders.{same_order}
use Rattle.physical.proofs.RequiredOrders.{front-not_gt}
use Rattle.certificate.specs.QueryOrders.{first_keys, ordered_column, ordered_columns, query_order}
use Rattle.certificate.specs.Replay.{is_delivered}
use Rattle.certificate.proofs.FirstKeys.{first-keys-order}

-- ---- an order's beginning

front-ordered : (n : ℕ) (keys : List OrderKey) (rows : List Env) → IsOrdered keys rows → IsOrdered (take n keys) rows
front-ordered n keys [] h = tt
front-ordered n keys (a ∷ []) h = tt
front-ordered n keys (a ∷ b ∷ rows) h = (front-not_gt n keys a b h.0, front-ordered n keys (b ∷ rows) h.1)

-- rows in the order by the first keys of the columns are in that by all
as-all : (keys : List OrderKey) (rows : List Env) → IsOrdered (first_keys keys) rows → IsOrdered keys rows
as-all keys [] h = tt
as-all keys (a ∷ []) h = tt
as-all keys (a ∷ b ∷ rows) h = (ap is_gt (sym (first-keys-order keys a b)) ∙ h.0, as-all keys (b ∷ rows) h.1)

-- ---- ORDER BY by column numbers

-- an item of a row, by its column's number
item-some : (numbers : List ℕ) (i c : ℕ) (r : Env) → slice_get numbers i ≡ Some c → value_at i (map r numbers) ≡ r c
item-some [] i c r e = cc
item-some (n ∷ numbers) zero c r e = let is : n ≡ c = cc in ap r is
item-some (n ∷ numbers) (suc i) c r e = item-some numbers i c r e

item-none : (numbers : List ℕ) (i : ℕ) (r : Env) → slice_get numbers i ≡ None → value_at i (map r numbers) ≡ value.Null
item-none [] i r e = refl
item-none (n ∷ numbers) zero r e = cc
item-none (n ∷ numbers) (suc i) r e = item-none numbers i r e

key-some : (k : order_by.SortKey) (c : ℕ) (x y : Row) (a b : Env) → value_at k.item x ≡ a c → value_at k.item y ≡ b c → key_order (record { column = c; descending = k.descending }) a b ≡ asked.key_order k x y
key-some k c x y a b e f = by k.descending
  where
    by : (d : Bool) → on (λ r. r c) (directed d) a b ≡ on (value_at k.item) (directed d) x y
    by true = rw (e, f) refl
    by false = rw (e, f) refl

key-none : (k : order_by.SortKey) (x y : Row) → value_at k.item x ≡ value.Null → value_at k.item y ≡ value.Null → asked.key_order k x y ≡ Equal
key-none k x y e f = by k.descending
  where
    by : (d : Bool) → on (value_at k.item) (directed d) x y ≡ Equal
    by true = rw (e, f) refl
    by false = rw (e, f) refl

two : {o p r s : Ordering} → o ≡ p → r ≡ s → ordering_then o r ≡ ordering_then p s
two e f = rw (e, f) refl

-- the order of rows by the items' columns is that of what they show
keys-same : (numbers : List ℕ) (keys : List order_by.SortKey) (a b : Env) → keys_order (ordered_columns numbers keys) a b ≡ asked.keys_order keys (map a numbers) (map b numbers)
keys-same numbers [] a b = refl
keys-same numbers (k ∷ keys) a b = by (slice_get numbers k.item) refl (keys-same numbers keys a b)
  where
    by : (o : Option ℕ) → slice_get numbers k.item ≡ o → keys_order (ordered_columns numbers keys) a b ≡ asked.keys_order keys (map a numbers) (map b numbers) → keys_order (ordered_column o k (ordered_columns numbers keys)) a b ≡ asked.keys_order (k ∷ keys) (map a numbers) (map b numbers)
    by None is later = later ∙ sym (two (key-none k (map a numbers) (map b numbers) (item-none numbers k.item a is) (item-none numbers k.item b is)) refl)
    by (Some c) is later = two (key-some k c (map a numbers) (map b numbers) a b (item-some numbers k.item c a is) (item-some numbers k.item c b is)) later

allowed : (numbers : List ℕ) (keys : List order_by.SortKey) (rows : List Env) → IsOrdered (ordered_columns numbers keys) rows → IsAllowed keys (map (λ r. map r numbers) rows)
allowed numbers keys [] h = tt
allowed numbers keys (a ∷ []) h = tt
allowed numbers keys (a ∷ b ∷ rows) h = (ap is_gt (sym (keys-same numbers keys a b)) ∙ h.0, allowed numbers keys (b ∷ rows) h.1)

-- the rows of a plan that delivers the ORDER BY
pub delivered-allowed : (q : Query) (p : Plan) (rows : List Env) → is_delivered q p ≡ true → IsOrdered (plan_order q.tables p) rows → IsAllowed q.order (query_shown q rows)
unfolding same_order
delivered-allowed q p rows is h =
    let front : take (length (query_order q)) (plan_order q.tables p) ≡ query_order q = same_by-equal (coded_list order_key.the_row.coded) (take (length (query_order q)) (plan_order q.tables p)) (query_order q) is in
    let first : IsOrdered (query_order q) rows = subst (λ keys. IsOrdered keys rows) front (front-ordered (length (query_order q)) (plan_order q.tables p) rows h) in
    allowed (query_numbers q) q.order rows (as-all (ordered_columns (query_numbers q) q.order) rows first)
