-- Rows at work. Their values stand side by side in parts; a row is the list of its rows in the parts.
use Rattle.std.specs.Prelude.{ℕ, List, [], ◌∷◌, map, slice_index_or, Option, Some, None}
use Rattle.values.specs.declared.cell.Cell.{Cell}
use Rattle.values.specs.declared.value.Value.{Value}
use Rattle.values.specs.declared.value.Value.TheVariants as value
use Rattle.values.specs.Cells.{value_of}
use Rattle.schema.specs.Databases.{Row}
use Rattle.query.specs.Rows.{value_at}
use Rattle.relations.specs.declared.headings.Place.{Place}
use Rattle.relations.specs.declared.parts.Source.{Source}
use Rattle.relations.specs.declared.parts.Source.TheVariants.{Stored, Made}
use Rattle.relations.specs.MadeColumns.{made_rows}

-- a row of each cell
abbrev pub cell_rows : List Cell → List Row
cell_rows cells = map (λ c. value_of c ∷ []) cells

abbrev pub source_rows : Source → List Row
source_rows (Stored table) = table.now
source_rows (Made column) = made_rows column

-- all rows, or those with some numbers
abbrev pub numbered_rows : List Row → Option (List ℕ) → List Row
numbered_rows rows None = rows
numbered_rows rows (Some numbers) = map (λ n. slice_index_or rows n []) numbers

-- the row with a number: in each part the one with it
abbrev pub row_at : List (List Row) → ℕ → List Row
row_at parts n = map (λ part. slice_index_or part n []) parts

-- the value at a place; Null where there is none
abbrev pub value_in : Option Place → List Row → Value
value_in None row = value.Null
value_in (Some place) row = value_at place.at (slice_index_or row place.part [])
