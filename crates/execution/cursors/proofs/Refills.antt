-- The next chunk, taken up where the rows at hand have been handed over.
use Rattle.std.proofs.Common.{◌≡◌, ap, sym, ◌∙◌, ℕ, List, [], ◌++◌, map, Option, Some}
use Rattle.std.proofs.lemmas.List.{map-append}
use Rattle.relations.specs.declared.environment.Env.{Empty}
use Rattle.relations.specs.declared.headings.Place.{Place}
use Rattle.relations.specs.Relations.{column_place}
use Rattle.selections.specs.declared.row_chunks.RowChunks.{RowChunks}
use Rattle.selections.specs.RowChunks.{chunks_to_come}
use Rattle.cursors.specs.declared.chunks.ChunkedRows.{ChunkedRows}
use Rattle.cursors.specs.declared.selected.SelectedRows.{SelectedRows}
use Rattle.cursors.specs.Chunks.{numbers_to_come}
use Rattle.cursors.specs.Progress.{rows_to_come}
use Rattle.cursors.specs.Selected.{selected_envs, selected_numbers}
use Rattle.cursors.specs.Shown.{shown_row}
use Rattle.cursors.specs.ShownRows.{shown_chunks}
use Rattle.cursors.proofs.ShownNumbers.{shown-selected}

-- of rows at hand that have been handed over
pub shown-none : (rows : ChunkedRows) (places : List (Option Place)) → numbers_to_come Empty rows ≡ [] → rows_to_come rows places ≡ []
shown-none rows places none = ap (map (shown_row rows.selected.relation.rows places)) none

-- the rows of a new chunk and those of the chunks behind it are those of the chunks before
pub refilled : (rows : ChunkedRows) (s : SelectedRows) (places : List (Option Place)) (columns : List ℕ) (old new : RowChunks)
    → rows.selected ≡ s → numbers_to_come Empty rows ≡ selected_numbers Empty s → places ≡ map (column_place s.relation.heading) columns
    → chunks_to_come old ≡ selected_envs Empty s ++ chunks_to_come new
    → rows_to_come rows places ++ shown_chunks (Some new) columns ≡ shown_chunks (Some old) columns
refilled rows s places columns old new selects numbers placed next =
    ap (λ l. l ++ shown_chunks (Some new) columns) (shown-selected rows s places columns selects numbers placed)
    ∙ sym (map-append (λ e. map e columns) (selected_envs Empty s) (chunks_to_come new))
    ∙ ap (map (λ e. map e columns)) (sym next)
