-- Rows by their numbers, as they are shown.
use Rattle.std.proofs.Common.{◌≡◌, refl, ap, sym, ◌∙◌, ℕ, List, map, Option, Some, None}
use mathlib.Core.List.{map-map}
use Rattle.schema.specs.Databases.{Row}
use Rattle.algebra.specs.Bags.{nulls}
use Rattle.relations.specs.declared.headings.Heading.{Heading}
use Rattle.relations.specs.declared.headings.Place.{Place}
use Rattle.relations.specs.declared.relation.Relation.{Relation}
use Rattle.relations.specs.Parts.{row_at, value_in}
use Rattle.relations.specs.Relations.{column_place, numbered_env, row_env}
use Rattle.relations.proofs.ColumnPlaces.{found-column, other-column}
use Rattle.relations.specs.declared.environment.Env.{Empty}
use Rattle.cursors.specs.declared.chunks.ChunkedRows.{ChunkedRows}
use Rattle.cursors.specs.declared.selected.SelectedRows.{SelectedRows}
use Rattle.cursors.specs.Chunks.{numbers_to_come}
use Rattle.cursors.specs.Progress.{rows_to_come}
use Rattle.cursors.specs.Selected.{selected_envs, selected_numbers}
use Rattle.cursors.specs.Shown.{shown_row}

read-column : (h : Heading) (row : List Row) (c : ℕ) → value_in (column_place h c) row ≡ row_env h row nulls c
read-column h row c = by (column_place h c) refl
  where
    by : (o : Option Place) → column_place h c ≡ o → value_in o row ≡ row_env h row nulls c
    by None is = sym (other-column h row nulls c (sym is))
    by (Some p) is = sym (found-column h row nulls c p (sym is))

pub shown-numbers : (r : Relation) (columns : List ℕ) (numbers : List ℕ) → map (shown_row r.rows (map (column_place r.heading) columns)) numbers ≡ map (λ e. map e columns) (map (numbered_env r nulls) numbers)
shown-numbers r columns numbers = (λ i. map (λ n. row n i) numbers) ∙ sym (map-map (λ e. map e columns) (numbered_env r nulls) numbers)
  where
    row : (n : ℕ) → shown_row r.rows (map (column_place r.heading) columns) n ≡ map (numbered_env r nulls n) columns
    row n = map-map (λ place. value_in place (row_at r.rows.parts.items n)) (column_place r.heading) columns ∙ (λ i. map (λ c. read-column r.heading (row_at r.rows.parts.items n) c i) columns)

-- rows that are selected, none of which has been handed over
pub shown-selected : (rows : ChunkedRows) (s : SelectedRows) (places : List (Option Place)) (columns : List ℕ) → rows.selected ≡ s → numbers_to_come Empty rows ≡ selected_numbers Empty s → places ≡ map (column_place s.relation.heading) columns
    → rows_to_come rows places ≡ map (λ e. map e columns) (selected_envs Empty s)
shown-selected rows s places columns selects numbers placed =
    ap (λ (t : SelectedRows). map (shown_row t.relation.rows places) (numbers_to_come Empty rows)) selects
    ∙ ap (map (shown_row s.relation.rows places)) numbers
    ∙ ap (λ (ps : List (Option Place)). map (shown_row s.relation.rows ps) (selected_numbers Empty s)) placed
    ∙ shown-numbers s.relation columns (selected_numbers Empty s)
