-- Rows that satisfy their table's entry have as many keys as they are, where a unique list is held whose columns are NOT NULL.
use Rattle.std.proofs.Common.{◌≡◌, refl, sym, ap, ◌∙◌, ℕ, zero, suc, ◌<◌, Bool, true, false, ◌&&◌, ◌||◌, ◌==◌, List, [], ◌∷◌, length, get_or, map, slice_index_or, arith}
use Rattle.std.specs.List.{AllByRecursion, list_any}
use Rattle.std.proofs.lemmas.Bool.{and_parts, eqb-true, false_from_ne_true}
use Rattle.std.proofs.lemmas.List.{get_or-map, length-map}
use Rattle.std.proofs.lemmas.Map.Keys.{IsDistinct-from_apart}
use Rattle.std.proofs.lemmas.Map.Made.{distinct_count-from_IsDistinct}
use Rattle.values.specs.declared.value.Value.{Value}
use Rattle.values.specs.declared.value.Value.TheVariants as value
use Rattle.values.specs.Truth.{is_null}
use Rattle.values.proofs.Lists.{all_at}
use Rattle.schema.specs.declared.schema.Column.{Column}
use Rattle.schema.specs.declared.schema.Table.{Table}
use Rattle.schema.specs.Databases.{Row, FitsColumn, FitsColumns, IsUnique, SatisfiesTable, SatisfyTables, values_at}
use Rattle.store.specs.Keys.{key_eq, key_decides, key_equiv}
use Rattle.statistics.specs.Counting.{different_keys}
use Rattle.statistics.specs.UniqueLists.{holds_unique_list, is_held, is_not_null_at}

-- the rows of a table of a database that satisfies its schema
pub table_at : (ts : List Table) (D : List (List Row)) (n : ℕ) (t : Table) (rows : List Row) → SatisfyTables ts D → n < length ts → n < length D → t ≡ get_or ts n t → rows ≡ get_or D n rows → SatisfiesTable t rows
table_at [] D n t rows h low under first second = absurd (omega (arith, low))
table_at (u ∷ ts) [] n t rows h low under first second = absurd h
table_at (u ∷ ts) (r ∷ D) zero t rows h low under first second = rw (first, second) h.0
table_at (u ∷ ts) (r ∷ D) (suc n) t rows h low under first second = table_at ts D n t rows h.1 (omega (arith, low)) (omega (arith, under)) first second

pub not_null_value : (cs : List Column) (row : Row) (p : ℕ) → FitsColumns cs row → is_not_null_at cs p ≡ true → is_null (slice_index_or row p value.Null) ≡ false
not_null_value [] row p fits is = cc
not_null_value (c ∷ cs) [] p fits is = absurd fits
not_null_value (c ∷ cs) (v ∷ row) zero fits is = at v fits.0
  where
    at : (v : Value) → FitsColumn c v → is_null v ≡ false
    at value.Null fits = absurd (cc (fits, is))
    at (value.Int n) fits = refl
    at (value.Text t) fits = refl
not_null_value (c ∷ cs) (v ∷ row) (suc p) fits is = not_null_value cs row p fits.1 is

-- rows with the same values at the places have the same at one of them
same_value : (places : List ℕ) (r s : Row) (p : ℕ) → values_at places r ≡ values_at places s → list_any (λ q. q == p) places ≡ true → slice_index_or r p value.Null ≡ slice_index_or s p value.Null
same_value [] r s p same has = cc
same_value (q ∷ places) r s p same has = pick (q == p) refl has (same_value places r s p (cc same))
  where
    here : slice_index_or r q value.Null ≡ slice_index_or s q value.Null
    here = cc same

    pick : (b : Bool) → (q == p) ≡ b → (b || list_any (λ z. z == p) places) ≡ true → (list_any (λ z. z == p) places ≡ true → slice_index_or r p value.Null ≡ slice_index_or s p value.Null)
        → slice_index_or r p value.Null ≡ slice_index_or s p value.Null
    pick true is h later = let at : q ≡ p = eqb-true q p is in rw (← at) here
    pick false is h later = later h

held_same : (cs : List Column) (places list : List ℕ) (r s : Row) → is_held cs places list ≡ true → values_at places r ≡ values_at places s → values_at list r ≡ values_at list s
held_same cs places [] r s held same = refl
held_same cs places (p ∷ list) r s held same =
    let parts = and_parts (list_any (λ q. q == p) places && is_not_null_at cs p) (is_held cs places list) held in
    let one : slice_index_or r p value.Null ≡ slice_index_or s p value.Null = same_value places r s p same (and_parts (list_any (λ q. q == p) places) (is_not_null_at cs p) parts.0).0 in
    rw (one, held_same cs places list r s parts.1 same) refl

held_whole : (cs : List Column) (places list : List ℕ) (r : Row) → is_held cs places list ≡ true → FitsColumns cs r → list_any is_null (values_at list r) ≡ false
held_whole cs places [] r held fits = refl
held_whole cs places (p ∷ list) r held fits =
    let parts = and_parts (list_any (λ q. q == p) places && is_not_null_at cs p) (is_held cs places list) held in
    ap (λ b. b || list_any is_null (values_at list r)) (not_null_value cs r p fits (and_parts (list_any (λ q. q == p) places) (is_not_null_at cs p) parts.0).1) ∙ held_whole cs places list r parts.1 fits

held_list : (cs : List Column) (places : List ℕ) (rows : List Row) (us : List (List ℕ)) → AllByRecursion (IsUnique rows) us → list_any (is_held cs places) us ≡ true → (u : List ℕ) × IsUnique rows u × (is_held cs places u ≡ true)
held_list cs places rows [] all some = cc
held_list cs places rows (u ∷ us) all some = pick (is_held cs places u) refl some (held_list cs places rows us all.1)
  where
    pick : (b : Bool) → is_held cs places u ≡ b → (b || list_any (is_held cs places) us) ≡ true
        → (list_any (is_held cs places) us ≡ true → (w : List ℕ) × IsUnique rows w × (is_held cs places w ≡ true)) → (w : List ℕ) × IsUnique rows w × (is_held cs places w ≡ true)
    pick true is h later = (u, all.0, is)
    pick false is h later = later h

pub each_differs : (t : Table) (rows : List Row) (places : List ℕ) → SatisfiesTable t rows → holds_unique_list t places ≡ true → different_keys rows places ≡ length rows
each_differs t rows places h holds =
    let ks : List Row = map (values_at places) rows in
    let found = held_list t.columns places rows t.unique h.unique holds in
    let apart : (i j : ℕ) (d : Row) → i < j → j < length ks → key_eq (get_or ks i d) (get_or ks j d) ≡ false = λ i j d lt low.
    let high : j < length rows = omega (arith, length-map rows (values_at places), low) in
    let first : get_or ks i d ≡ values_at places (slice_index_or rows i []) = get_or-map (values_at places) rows i [] d (omega (arith, lt, high)) in
    let second : get_or ks j d ≡ values_at places (slice_index_or rows j []) = get_or-map (values_at places) rows j [] d high in
    false_from_ne_true (key_eq (get_or ks i d) (get_or ks j d)) (λ alike.
    let same : values_at places (slice_index_or rows i []) ≡ values_at places (slice_index_or rows j []) = sym first ∙ (key_decides (get_or ks i d) (get_or ks j d)).0 alike ∙ second in
    found.1 i j lt high (held_whole t.columns places found.0 (slice_index_or rows i []) found.2 (all_at (FitsColumns t.columns) rows i [] (omega (arith, lt, high)) h.fit))
    (held_same t.columns places found.0 (slice_index_or rows i []) (slice_index_or rows j []) found.2 same)) in
    distinct_count-from_IsDistinct key_equiv ks (IsDistinct-from_apart key_eq ks apart) ∙ length-map rows (values_at places)
