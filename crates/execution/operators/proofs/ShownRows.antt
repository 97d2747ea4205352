-- The rows of an answer, as they are shown.
use Rattle.std.proofs.Common.{◌≡◌, refl, ap, sym, ◌∙◌, ℕ, zero, suc, ◌+◌, ◌<◌, List, [], length, get_or, map, Option, Some, None, zero-add}
use Rattle.std.specs.List.{range_with_len}
use Rattle.std.proofs.lemmas.List.{get_or-map, length-map}
use Rattle.std.proofs.lemmas.List.FromFn.{length-map-range_with_len, get_or-map-range_with_len}
use Rattle.values.specs.declared.value.Value.TheVariants as value
use Rattle.schema.specs.Databases.{Row, HaveWidth}
use Rattle.algebra.specs.Bags.{nulls}
use Rattle.relations.specs.declared.headings.Heading.{Heading}
use Rattle.relations.specs.declared.headings.Place.{Place}
use Rattle.relations.specs.declared.relation.Relation.{Relation}
use Rattle.relations.specs.declared.rows.Rows.{Rows}
use Rattle.relations.specs.Parts.{row_at, value_in}
use Rattle.relations.specs.Relations.{column_place, numbered_env, row_env, rows_of, numbers_of}
use Rattle.operators.specs.Shown.{shown_rows}
use Rattle.relations.proofs.ColumnPlaces.{found-column, other-column}
use mathlib.Core.List.{map-map}

abbrev pub shown_row : Rows → List (Option Place) → ℕ → Row
shown_row rows places n = map (λ place. value_in place (row_at rows.parts.items n)) places

pub shown-length : (rows : Rows) (places : List (Option Place)) → length (shown_rows rows places) ≡ rows.count
shown-length rows places = length-map-range_with_len (shown_row rows places) 0 rows.count

pub shown-width : (rows : Rows) (places : List (Option Place)) → HaveWidth (length places) (shown_rows rows places)
shown-width rows places = each rows.count 0
  where
    each : (n m : ℕ) → HaveWidth (length places) (map (shown_row rows places) (range_with_len m n))
    each zero m = tt
    each (suc n) m = (length-map places (λ place. value_in place (row_at rows.parts.items m)), each n (m + 1))

pub shown-at : (rows : Rows) (places : List (Option Place)) (n : ℕ) → n < rows.count → get_or (shown_rows rows places) n [] ≡ shown_row rows places n
shown-at rows places n below = get_or-map-range_with_len (shown_row rows places) 0 rows.count n n [] below (zero-add n)

pub shown-cell : (rows : Rows) (places : List (Option Place)) (n at : ℕ) → n < rows.count → at < length places
    → get_or (get_or (shown_rows rows places) n []) at value.Null ≡ value_in (get_or places at None) (row_at rows.parts.items n)
shown-cell rows places n at below within = ap (λ (r : Row). get_or r at value.Null) (shown-at rows places n below) ∙ get_or-map (λ place. value_in place (row_at rows.parts.items n)) places at None value.Null within

-- ---- in some columns

read-column : (h : Heading) (row : List Row) (c : ℕ) → value_in (column_place h c) row ≡ row_env h row nulls c
read-column h row c = by (column_place h c) refl
  where
    by : (o : Option Place) → column_place h c ≡ o → value_in o row ≡ row_env h row nulls c
    by None is = sym (other-column h row nulls c (sym is))
    by (Some p) is = sym (found-column h row nulls c p (sym is))

pub shown-columns : (found : Relation) (columns : List ℕ) → shown_rows found.rows (map (column_place found.heading) columns) ≡ map (λ r. map r columns) (rows_of found nulls)
shown-columns found columns =
    (λ i. map (λ n. row n i) (numbers_of found)) ∙ sym (map-map (λ r. map r columns) (numbered_env found nulls) (numbers_of found))
  where
    row : (n : ℕ) → shown_row found.rows (map (column_place found.heading) columns) n ≡ map (numbered_env found nulls n) columns
    row n = map-map (λ place. value_in place (row_at found.rows.parts.items n)) (column_place found.heading) columns ∙ (λ i. map (λ c. read-column found.heading (row_at found.rows.parts.items n) c i) columns)
