-- Lists of rows under headings.
use Rattle.std.proofs.Common.{◌≡◌, refl, ap, sym, ◌∙◌, ℕ, zero, suc, ◌+◌, ◌-◌, ◌<◌, ◌≤◌, ◌==◌, Bool, true, false, if◌then◌else◌, List, [], ◌∷◌, length, get_or, map, Some, zero-add, arith}
use Rattle.std.specs.List.{range_with_len, AllByRecursion}
use Rattle.std.proofs.lemmas.List.{get_or-map, length-map}
use mathlib.Core.List.{map-map}
use Rattle.values.proofs.Lists.{all_append}
use Rattle.values.specs.declared.cell.Cell.{Cell}
use Rattle.values.specs.declared.value.Value.{Value}
use Rattle.values.specs.Cells.{value_of}
use Rattle.schema.specs.Databases.{Row}
use Rattle.query.specs.declared.query.TableInstance.{TableInstance}
use Rattle.query.specs.Rows.{value_at}
use Rattle.algebra.specs.Columns.{has}
use Rattle.algebra.specs.Bags.{Env, lay, nulls}
use Rattle.algebra.specs.Expressions.{instance_columns, instance_row}
use Rattle.relations.specs.declared.headings.Heading.{Heading}
use Rattle.relations.specs.declared.headings.Place.{Place}
use Rattle.relations.specs.Parts.{cell_rows, row_at, value_in}
use Rattle.relations.specs.Places.{first_at, own_part, listed, place_in, place_list}
use Rattle.relations.specs.Relations.{column_places, row_env}
use Rattle.relations.proofs.ColumnPlaces.{made-row, in-run, projected-row}
use Rattle.relations.proofs.Numbers.{by-number}
use Rattle.store.proofs.TextPlaces.{range_alike}

-- ---- the rows of a table under its own heading

pub table-row : (t : TableInstance) (h : Heading) (row : Row) (e : Env) → h.columns ≡ instance_columns t → h.places.items ≡ map first_at (range_with_len 0 (length t.entry.columns)) → row_env h (row ∷ []) e ≡ instance_row t row e
table-row t h row e columns places = λ i c. pointwise c i
  where
    pointwise : (c : ℕ) → row_env h (row ∷ []) e c ≡ instance_row t row e c
    pointwise c = rw (columns, places) (by (has (instance_columns t) c) refl)
      where
        by : (b : Bool) → has (instance_columns t) c ≡ b → (if b then value_in (place_in (instance_columns t) (map first_at (range_with_len 0 (length t.entry.columns))) c) (row ∷ []) else e c) ≡ (if b then value_at (c - t.first_column) row else e c)
        by true there = ap (λ o. value_in o (row ∷ [])) (in-run t.first_column (length t.entry.columns) 0 c there) ∙ ap (λ n. value_at n row) (zero-add (c - t.first_column))
        by false absent = refl

pub table-rows : (t : TableInstance) (h : Heading) (table : List Row) (e : Env) → h.columns ≡ instance_columns t → h.places.items ≡ map first_at (range_with_len 0 (length t.entry.columns))
    → map (λ n. row_env h (row_at (table ∷ []) n) e) (range_with_len 0 (length table)) ≡ map (λ row. instance_row t row e) table
table-rows t h table e columns places =
    by-number (λ (row : Row). row_env h (row ∷ []) e) table [] ∙ (λ i. map (λ row. table-row t h row e columns places i) table)

-- ---- rows that were made with the columns of environments

made-cells : (K : List ℕ) (made : List Env) (n : ℕ) → n < length made → row_at (map (λ c. map (λ f. f c ∷ []) made) K) n ≡ map (λ c. get_or made n nulls c ∷ []) K
made-cells [] made n below = refl
made-cells (k ∷ K) made n below = rw (get_or-map (λ (f : Env). f k ∷ []) made n nulls [] below, made-cells K made n below) refl

pub made-rows : (h : Heading) (K : List ℕ) (parts : List (List Row)) (made : List Env) (count : ℕ) (e : Env) → h.columns ≡ K → h.places.items ≡ map own_part (range_with_len 0 (length K)) → length made ≡ count → parts ≡ map (λ c. map (λ f. f c ∷ []) made) K
    → map (λ n. row_env h (row_at parts n) e) (range_with_len 0 count) ≡ map (λ f. lay (has K) f e) made
made-rows h K parts made count e columns places many values =
    ap (λ n. map (λ n. row_env h (row_at parts n) e) (range_with_len 0 n)) (sym many)
    ∙ range_alike (λ n. row_env h (row_at parts n) e) (λ n. lay (has K) (get_or made n nulls) e) 0 (length made)
    (λ i low high. made-row h K (get_or made i nulls) e (row_at parts i) columns places (ap (λ ps. row_at ps i) values ∙ made-cells K made i (omega (arith, high))))
    ∙ by-number (λ (f : Env). lay (has K) f e) made nulls

-- ---- rows under a heading that is projected

pub projected-rows : (h g : Heading) (K : List ℕ) (parts : List (List Row)) (numbers : List ℕ) (e : Env) → g.columns ≡ K → g.places.items ≡ column_places h K → length (column_places h K) ≡ length K
    → map (λ n. row_env g (row_at parts n) e) numbers ≡ map (λ r. lay (has K) r e) (map (λ n. row_env h (row_at parts n) e) numbers)
projected-rows h g K parts numbers e columns places whole =
    (λ i. map (λ n. projected-row h g K (row_at parts n) e columns places whole i) numbers) ∙ sym (map-map (λ r. lay (has K) r e) (λ n. row_env h (row_at parts n) e) numbers)

-- ---- places that are within

pub place-within : (P : Place → Type 0) (columns : List ℕ) (places : List Place) (c : ℕ) → AllByRecursion P places → AllByRecursion P (listed (place_in columns places c))
place-within P [] places c all = tt
place-within P (k ∷ columns) [] c all = tt
place-within P (k ∷ columns) (p ∷ places) c all = by (k == c) (place-within P columns places c all.1)
  where
    by : (b : Bool) → AllByRecursion P (listed (place_in columns places c)) → AllByRecursion P (listed (if b then Some p else place_in columns places c))
    by true later = (all.0, tt)
    by false later = later

pub places-within : (P : Place → Type 0) (columns : List ℕ) (places : List Place) (K : List ℕ) → AllByRecursion P places → AllByRecursion P (place_list columns places K)
places-within P columns places [] all = tt
places-within P columns places (c ∷ K) all = all_append P (listed (place_in columns places c)) (place_list columns places K) (place-within P columns places c all) (places-within P columns places K all)

pub first-within : (n m : ℕ) → AllByRecursion (λ p. p.part < 1) (map first_at (range_with_len m n))
first-within n m = each n m
  where
    each : (n m : ℕ) → AllByRecursion (λ (p : Place). p.part < 1) (map first_at (range_with_len m n))
    each zero m = tt
    each (suc n) m = (omega arith, each n (m + 1))

pub own-within : (n m end : ℕ) → m + n ≤ end → AllByRecursion (λ p. p.part < end) (map own_part (range_with_len m n))
own-within zero m end below = tt
own-within (suc n) m end below = (omega (arith, below), own-within n (m + 1) end (omega (arith, below)))

-- ---- columns of values

pub value-column : (values : List Value) (fs : List Env) (c : ℕ) → values ≡ map (λ f. f c) fs → map (λ v. v ∷ []) values ≡ map (λ f. f c ∷ []) fs
value-column values fs c same = ap (map (λ (v : Value). v ∷ [])) same ∙ map-map (λ (v : Value). v ∷ []) (λ (f : Env). f c) fs

pub cell-column : (cells : List Cell) (fs : List Env) (c : ℕ) → map value_of cells ≡ map (λ f. f c) fs → cell_rows cells ≡ map (λ f. f c ∷ []) fs
cell-column cells fs c same = sym (map-map (λ (v : Value). v ∷ []) value_of cells) ∙ value-column (map value_of cells) fs c same

pub made-even : (K : List ℕ) (made : List Env) (count : ℕ) → length made ≡ count → AllByRecursion (λ part. length part ≡ count) (map (λ c. map (λ f. f c ∷ []) made) K)
made-even [] made count many = tt
made-even (k ∷ K) made count many = (length-map made (λ f. f k ∷ []) ∙ many, made-even K made count many)
