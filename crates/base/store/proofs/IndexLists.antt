-- Row numbers in the order of an index.
use Rattle.std.proofs.Common.{◌≡◌, ℕ, zero, suc, ◌+◌, ◌<◌, ◌≤◌, List, [], ◌∷◌, ◌++◌, length, map, get_or, Bool, false, Bor, refl, sym, ap, ◌∙◌, arith}
use denote.Param.Members.{Mut}
use Rattle.std.specs.declared.cmp.Ordering.{Ordering}
use Rattle.std.specs.declared.cmp.Ordering.TheVariants.{Less, Equal, Greater}
use Rattle.std.specs.Ordering.{is_lt, nat_cmp, ordering_then}
use Rattle.std.specs.Cmp.{IsTotalOrder, IsStrictWeakOrder, nat_cmp_is}
use Rattle.std.specs.Fn.{Called, ComparesAs}
use Rattle.std.specs.List.{All, range_with_len}
use Rattle.std.specs.List.Sorted.{IsSorted, IsSortedBy}
use Rattle.std.proofs.lemmas.Cmp.{nat_cmp_total, on_total, then_total}
use Rattle.std.proofs.lemmas.Fn.{always_returns_same}
use Rattle.std.proofs.lemmas.List.{get_or-map, length-map}
use Rattle.std.proofs.lemmas.List.FromFn.{get_or-range_with_len, length-range_with_len}
use Rattle.std.proofs.lemmas.List.Sorted.{ranks_by}
use Rattle.values.specs.declared.cell.Cell.TheVariants as cell
use Rattle.values.specs.Cells.{value_of}
use Rattle.values.proofs.Orders.{order_total, by_keys_total}
use Rattle.schema.specs.Databases.{Row}
use Rattle.store.specs.Indexes.{value_at, place_order, index_order}
use Rattle.store.specs.KeyedRows.{HasValueAt, keyed_order}
use Rattle.store.specs.declared.indexes.Keyed.{Keyed}

-- ---- the order

pub index_total : (rows : List Row) (places : List ℕ) → IsTotalOrder (index_order rows places)
index_total rows places = then_total (by_keys_total (place_order rows) (λ p. on_total (λ (i : ℕ). value_at rows i p) order_total) places) nat_cmp_total

-- a sort whose closure answers as a total order does
pub sorted_by_closure : {X : Type 0} (cmp : X → X → Ordering) → IsTotalOrder cmp → {F : Type 0} {g : Mut F (Bor X × (Bor X × Unit {0})) Ordering} {f : F} (xs : List X)
    → ((lt : X → X → Bool) → IsStrictWeakOrder lt → ComparesAs g lt f → IsSortedBy lt xs)
    → ((a : Bor X × (Bor X × Unit {0})) (r : Ordering) (f' : F) → Called g f a r f' → (r ≡ cmp a.0.now a.1.0.now) × (f' ≡ f)) → IsSorted cmp xs
sorted_by_closure {X} cmp total {g = g} {f = f} xs up answers =
    let lt : X → X → Bool = λ a b. is_lt (cmp a b) in
    let weak : IsStrictWeakOrder lt = ranks_by total (λ a. a) in
    let compares : ComparesAs g lt f = always_returns_same g (λ a r. is_lt r ≡ lt a.0.now a.1.0.now) f (λ a r f' k. (ap is_lt (answers a r f' k).0, (answers a r f' k).1)) in
    up lt weak compares

-- ---- the numbers of rows

range_next : (a n : ℕ) → range_with_len a (suc n) ≡ range_with_len a n ++ (a + n) ∷ []
range_next a zero = let same : a ≡ a + 0 = omega arith in ap (λ (x : ℕ). x ∷ []) same
range_next a (suc n) =
    let same : a + 1 + n ≡ a + suc n = omega arith in
    ap (λ (xs : List ℕ). a ∷ xs) (range_next (a + 1) n ∙ ap (λ (x : ℕ). range_with_len (a + 1) n ++ x ∷ []) same)

pub numbers_more : (n : ℕ) → range_with_len 0 (n + 1) ≡ range_with_len 0 n ++ n ∷ []
numbers_more n =
    let next : n + 1 ≡ suc n = omega arith in
    let same : 0 + n ≡ n = omega arith in
    ap (range_with_len 0) next ∙ range_next 0 n ∙ ap (λ (x : ℕ). range_with_len 0 n ++ x ∷ []) same

-- ---- rows that stand in the order as they are

-- so far no row is below the one before it
abbrev pub AreInOrder : List Row → List ℕ → ℕ → Type 0
AreInOrder rows places n = (k : ℕ) → k + 1 < n → is_lt (index_order rows places (k + 1) k) ≡ false

plus : (n : ℕ) → 0 + n ≡ n
plus n = omega arith

pub sorted_already : (rows : List Row) (places : List ℕ) (n : ℕ) → length rows ≤ n → AreInOrder rows places n → IsSorted (index_order rows places) (range_with_len 0 (length rows))
sorted_already rows places n le h k d low high =
    let size = length-range_with_len 0 (length rows) in
    let next : get_or (range_with_len 0 (length rows)) (k + 1) d ≡ k + 1 = get_or-range_with_len 0 (length rows) (k + 1) d (omega (arith, size, high)) ∙ plus (k + 1) in
    let here : get_or (range_with_len 0 (length rows)) k d ≡ k = get_or-range_with_len 0 (length rows) k d (omega (arith, size, high)) ∙ plus k in
    rw (next, here) (h k (omega (arith, size, high)))

not_below : (k : ℕ) → is_lt (nat_cmp (k + 1) k) ≡ false
not_below k = ap is_lt (sym (nat_cmp_is (k + 1) k Greater (omega arith)))

-- rows of an index of no place stand as they are
pub sorted_by_number : (rows : List Row) (n : ℕ) → IsSorted (index_order rows []) (range_with_len 0 n)
sorted_by_number rows n k d low high =
    let size = length-range_with_len 0 n in
    let next : get_or (range_with_len 0 n) (k + 1) d ≡ k + 1 = get_or-range_with_len 0 n (k + 1) d (omega (arith, size, high)) ∙ plus (k + 1) in
    let here : get_or (range_with_len 0 n) k d ≡ k = get_or-range_with_len 0 n k d (omega (arith, size, high)) ∙ plus k in
    rw (next, here) (not_below k)

-- ---- rows with their values at the first place

pub keyed_total : (rows : List Row) (later : List ℕ) → IsTotalOrder (keyed_order rows later)
keyed_total rows later = then_total (on_total (λ (k : Keyed). value_of k.value) order_total) (on_total (λ (k : Keyed). k.number) (index_total rows later))

then_again : (a b c : Ordering) → ordering_then a (ordering_then b c) ≡ ordering_then (ordering_then a b) c
then_again Less b c = refl
then_again Equal b c = refl
then_again Greater b c = refl

keyed_as_index : (rows : List Row) (place : ℕ) (later : List ℕ) (a b : Keyed) → HasValueAt rows place a → HasValueAt rows place b → keyed_order rows later a b ≡ index_order rows (place ∷ later) a.number b.number
keyed_as_index rows place later a b p q = rw (p, q) (then_again (place_order rows place a.number b.number) _ _)

pub keyed_sorted : (rows : List Row) (place : ℕ) (later : List ℕ) (xs : List Keyed) → All (HasValueAt rows place) xs → IsSorted (keyed_order rows later) xs
    → IsSorted (index_order rows (place ∷ later)) (map (λ k. k.number) xs)
keyed_sorted rows place later xs all up k d low high =
    let number : Keyed → ℕ = λ x. x.number in
    let none : Keyed = record { value = cell.Null; number = d } in
    let size = length-map xs number in
    let first = get_or-map number xs k none d (omega (arith, size, high)) in
    let second = get_or-map number xs (k + 1) none d (omega (arith, size, high)) in
    rw (first, second) (ap is_lt (sym (keyed_as_index rows place later (get_or xs (k + 1) none) (get_or xs k none) (all (k + 1) none (omega (arith, size, high))) (all k none (omega (arith, size, high))))) ∙ up k none low (omega (arith, size, high)))
