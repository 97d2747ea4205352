-- Rows, as they are shown.
use Rattle.std.specs.Prelude.{ℕ, List, map, Option}
use Rattle.schema.specs.Databases.{Row}
use Rattle.relations.specs.declared.headings.Place.{Place}
use Rattle.relations.specs.declared.rows.Rows.{Rows}
use Rattle.relations.specs.Parts.{row_at, value_in}

-- the values at the places in the row with a number
abbrev pub shown_row : Rows → List (Option Place) → ℕ → Row
shown_row rows places n = map (λ place. value_in place (row_at rows.parts.items n)) places
