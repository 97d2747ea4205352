-- The rows of an answer.
use Rattle.std.specs.Prelude.{List, map, Option}
use Rattle.std.specs.List.{range_with_len}
use Rattle.schema.specs.Databases.{Row}
use Rattle.relations.specs.declared.headings.Place.{Place}
use Rattle.relations.specs.declared.rows.Rows.{Rows}
use Rattle.relations.specs.Parts.{row_at, value_in}

-- the values at the places in each row
abbrev pub shown_rows : Rows → List (Option Place) → List Row
shown_rows rows places = map (λ n. map (λ place. value_in place (row_at rows.parts.items n)) places) (range_with_len 0 rows.count)
