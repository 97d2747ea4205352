-- The rows of a cursor: those at hand, and those of chunks that are still to be made.
use Rattle.std.specs.Prelude.{◌≡◌, ◌++◌, ◌<◌, ℕ, Bool, true, false, List, [], ◌∷◌, map, Option, None, Some}
use Rattle.schema.specs.Databases.{Row}
use Rattle.selections.specs.declared.row_chunks.RowChunks.{RowChunks}
use Rattle.selections.specs.RowChunks.{chunks_to_come, pairs_to_come}
use Rattle.cursors.specs.declared.shown.ShownRows.{ShownRows}
use Rattle.cursors.specs.Progress.{rows_to_come}
use Rattle.cursors.specs.Shown.{shown_row}

-- the rows of chunks in some columns
abbrev pub shown_chunks : Option RowChunks → List ℕ → List Row
shown_chunks None columns = []
shown_chunks (Some c) columns = map (λ e. map e columns) (chunks_to_come c)

-- those that are still to come
abbrev pub shown_to_come : ShownRows → List Row
shown_to_come s = rows_to_come s.rows s.places ++ shown_chunks s.more s.columns.items

-- how many pairs of a join are still to be made
abbrev pub left_behind : Option RowChunks → ℕ
left_behind None = 0
left_behind (Some c) = pairs_to_come c

-- the same rows are to come, and fewer of a join; without a chunk no row is
abbrev pub IsRefilled : ShownRows → ShownRows → Bool → Type 0
IsRefilled old new true = (shown_to_come new ≡ shown_to_come old) × (left_behind new.more < left_behind old.more)
IsRefilled old new false = (shown_to_come old ≡ []) × (shown_to_come new ≡ [])

-- the row with a number is the first of those to come, or none is to come
abbrev pub IsNextRow : ShownRows → ShownRows → Option ℕ → Type 0
IsNextRow old new (Some number) = shown_to_come old ≡ shown_row new.rows.selected.relation.rows new.places number ∷ shown_to_come new
IsNextRow old new None = (shown_to_come old ≡ []) × (shown_to_come new ≡ [])
