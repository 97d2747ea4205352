-- The keys of one unique column: the rows without a Null differ, and those with it share one key.
use Rattle.std.proofs.Common.{◌≡◌, ◌≢◌, refl, sym, ap, ◌∙◌, ℕ, zero, suc, ◌+◌, ◌-◌, ◌<◌, ◌≤◌, min, Bool, true, false, cond, ◌||◌, List, [], ◌∷◌, length, map, slice_index_or, arith}
use Rattle.std.specs.List.{AllByRecursion, list_any, count_by}
use Rattle.std.specs.Set.{is_member}
use Rattle.std.proofs.lemmas.Bool.{eqb-true, false_from_ne_true}
use Rattle.std.proofs.lemmas.List.Sums.{sum_by-cons, count_by-le-length}
use Rattle.values.specs.declared.value.Value.{Value}
use Rattle.values.specs.declared.value.Value.TheVariants as value
use Rattle.values.specs.Truth.{is_null}
use Rattle.schema.specs.declared.schema.Table.{Table}
use Rattle.schema.specs.Databases.{Row, IsUnique, SatisfiesTable, values_at}
use Rattle.store.specs.Keys.{key_eq, key_decides}
use Rattle.statistics.specs.Counting.{different_keys}
use Rattle.statistics.specs.UniqueLists.{is_single, is_unique_column, is_null_at}

single : (place : ℕ) (list : List ℕ) → is_single place list ≡ true → list ≡ place ∷ []
single place [] is = cc is
single place (p ∷ []) is = ap (λ (q : ℕ). q ∷ []) (eqb-true p place is)
single place (p ∷ q ∷ ps) is = cc is

unique_there : (rows : List Row) (place : ℕ) (us : List (List ℕ)) → AllByRecursion (IsUnique rows) us → list_any (is_single place) us ≡ true → IsUnique rows (place ∷ [])
unique_there rows place [] all some = cc some
unique_there rows place (u ∷ us) all some = pick (is_single place u) refl some (unique_there rows place us all.1)
  where
    pick : (b : Bool) → is_single place u ≡ b → (b || list_any (is_single place) us) ≡ true → (list_any (is_single place) us ≡ true → IsUnique rows (place ∷ [])) → IsUnique rows (place ∷ [])
    pick true is h later = rw (single place u is) at all.0
    pick false is h later = later h

pub unique_column : (t : Table) (rows : List Row) (place : ℕ) → SatisfiesTable t rows → is_unique_column t place ≡ true → IsUnique rows (place ∷ [])
unique_column t rows place h is = unique_there rows place t.unique h.unique is

-- ---- their count

abbrev value_in : ℕ → Row → Value
value_in place row = slice_index_or row place value.Null

abbrev keys_of : ℕ → List Row → List Row
keys_of place rows = map (values_at (place ∷ [])) rows

null_is : (v : Value) → is_null v ≡ true → v ≡ value.Null
null_is value.Null e = refl
null_is (value.Int z) e = cc e
null_is (value.Text s) e = cc e

-- a key that no row has
not_there : (place : ℕ) (rows : List Row) (v : Value) → ((j : ℕ) → j < length rows → v ≢ value_in place (slice_index_or rows j [])) → is_member key_eq (keys_of place rows) (v ∷ []) ≡ false
not_there place [] v h = refl
not_there place (r ∷ rows) v h =
    let first : key_eq (v ∷ []) (value_in place r ∷ []) ≡ false = false_from_ne_true (key_eq (v ∷ []) (value_in place r ∷ [])) (λ same.
    let is : v ∷ [] ≡ value_in place r ∷ [] = (key_decides (v ∷ []) (value_in place r ∷ [])).0 same in
    h 0 (omega arith) (cc is)) in
    ap (λ b. b || is_member key_eq (keys_of place rows) (v ∷ [])) first ∙ not_there place rows v (λ j lt same. h (suc j) (omega arith) same)

abbrev some : ℕ → Bool
some zero = false
some (suc n) = true

nulls_more : (place : ℕ) (r : Row) (rows : List Row) → count_by (is_null_at place) (r ∷ rows) ≡ cond (is_null_at place r) 1 0 + count_by (is_null_at place) rows
nulls_more place r rows = sum_by-cons (λ x. cond (is_null_at place x) 1 0) r rows

some_more : (n : ℕ) → some (1 + n) ≡ true
some_more n = let one : 1 + n ≡ suc n = omega arith in rw one refl

-- Null is among the keys where a row has one
null_there : (place : ℕ) (rows : List Row) → is_member key_eq (keys_of place rows) (value.Null ∷ []) ≡ some (count_by (is_null_at place) rows)
null_there place [] = refl
null_there place (r ∷ rows) = rw (nulls_more place r rows) (at (value_in place r) (null_there place rows))
  where
    at : (v : Value) → is_member key_eq (keys_of place rows) (value.Null ∷ []) ≡ some (count_by (is_null_at place) rows)
        → (key_eq (value.Null ∷ []) (v ∷ []) || is_member key_eq (keys_of place rows) (value.Null ∷ [])) ≡ some (cond (is_null v) 1 0 + count_by (is_null_at place) rows)
    at value.Null rest = sym (some_more (count_by (is_null_at place) rows))
    at (value.Int z) rest = rest ∙ ap some (omega arith)
    at (value.Text s) rest = rest ∙ ap some (omega arith)

count_more : (place : ℕ) (r : Row) (rows : List Row) (b : Bool) → is_member key_eq (keys_of place rows) (value_in place r ∷ []) ≡ b
    → different_keys (r ∷ rows) (place ∷ []) ≡ cond b (different_keys rows (place ∷ [])) (suc (different_keys rows (place ∷ [])))
count_more place r rows true is = rw is refl
count_more place r rows false is = rw is refl

one_null : (place : ℕ) (r : Row) (rows : List Row) (nulls : ℕ) → count_by (is_null_at place) rows ≡ nulls → is_member key_eq (keys_of place rows) (value_in place r ∷ []) ≡ some nulls
    → different_keys rows (place ∷ []) + nulls ≡ length rows + min nulls 1 → different_keys (r ∷ rows) (place ∷ []) + (1 + nulls) ≡ length (r ∷ rows) + min (1 + nulls) 1
one_null place r rows zero is has before = let more = count_more place r rows false has in omega (arith, more, before)
one_null place r rows (suc n) is has before = let more = count_more place r rows true has in omega (arith, more, before)

-- the keys, with each Null counted, are as many as the rows, and one where there is a Null
keys_and_nulls : (place : ℕ) (rows : List Row) → IsUnique rows (place ∷ []) → different_keys rows (place ∷ []) + count_by (is_null_at place) rows ≡ length rows + min (count_by (is_null_at place) rows) 1
keys_and_nulls place [] h = refl
keys_and_nulls place (r ∷ rows) h =
    let before = keys_and_nulls place rows (λ i j lt low whole same. h (suc i) (suc j) (omega arith) (omega arith) whole same) in
    rw (nulls_more place r rows) (at (is_null_at place r) refl before)
  where
    at : (b : Bool) → is_null_at place r ≡ b → different_keys rows (place ∷ []) + count_by (is_null_at place) rows ≡ length rows + min (count_by (is_null_at place) rows) 1
        → different_keys (r ∷ rows) (place ∷ []) + (cond b 1 0 + count_by (is_null_at place) rows) ≡ length (r ∷ rows) + min (cond b 1 0 + count_by (is_null_at place) rows) 1
    at true null before =
        let has = ap (λ (v : Value). is_member key_eq (keys_of place rows) (v ∷ [])) (null_is (value_in place r) null) ∙ null_there place rows in
        one_null place r rows (count_by (is_null_at place) rows) refl has before
    at false whole before =
        let new = not_there place rows (value_in place r) (λ j low same. h 0 (suc j) (omega arith) (omega arith) (ap (λ b. b || false) whole) (ap (λ (v : Value). v ∷ []) same)) in
        let more = count_more place r rows false new in
        omega (arith, more, before)

pub counted_by_nulls : (place : ℕ) (rows : List Row) (nulls keys : ℕ) → IsUnique rows (place ∷ []) → nulls ≡ count_by (is_null_at place) rows → keys ≡ length rows - nulls + min nulls 1 → keys ≡ different_keys rows (place ∷ [])
counted_by_nulls place rows nulls keys h is by =
    let all = keys_and_nulls place rows h in
    let few : count_by (is_null_at place) rows ≤ length rows = count_by-le-length (is_null_at place) rows in
    omega (arith, all, few, is, by)
