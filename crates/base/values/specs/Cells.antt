-- The value that a cell is, wherever its text lies.
use Rattle.values.specs.declared.value.Value.{Value}
use Rattle.values.specs.declared.value.Value.TheVariants as value
use Rattle.values.specs.declared.cell.Cell.{Cell}
use Rattle.values.specs.declared.cell.Cell.TheVariants as cell

abbrev pub value_of : Cell → Value
value_of cell.Null = value.Null
value_of (cell.Int n) = value.Int n
value_of (cell.Text t) = value.Text t.now
