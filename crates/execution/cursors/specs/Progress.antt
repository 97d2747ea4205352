-- The rows of a cursor, as they are shown.
use Rattle.std.specs.Prelude.{ℕ, List, map, Option, Some, None}
use Rattle.schema.specs.Databases.{Row}
use Rattle.relations.specs.declared.environment.Env.{Empty}
use Rattle.relations.specs.declared.headings.Place.{Place}
use Rattle.cursors.specs.Chunks.{numbers_to_come}
use Rattle.cursors.specs.Shown.{shown_row}
use Rattle.cursors.specs.declared.chunks.ChunkedRows.{ChunkedRows}

abbrev pub current_row : ChunkedRows → List (Option Place) → Option ℕ → Option Row
current_row rows places None = None
current_row rows places (Some number) = Some (shown_row rows.selected.relation.rows places number)

abbrev pub rows_to_come : ChunkedRows → List (Option Place) → List Row
rows_to_come rows places = map (shown_row rows.selected.relation.rows places) (numbers_to_come Empty rows)
