-- The row that its cells make up.
use Rattle.std.specs.Prelude.{[], map, slice_index_or}
use Rattle.values.specs.Cells.{value_of}
use Rattle.schema.specs.Databases.{Row}
use Rattle.store.specs.declared.row.RowCells.{RowCells}
use Rattle.store.specs.declared.row.RowCells.TheVariants.{Stored, Made}

abbrev pub row_of : RowCells → Row
row_of (Stored table row) = slice_index_or table.now row []
row_of (Made cells) = map value_of cells.now
