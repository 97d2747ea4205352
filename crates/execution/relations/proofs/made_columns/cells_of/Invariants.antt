use Rattle.std.proofs.Common.{◌≡◌, map, take}
use Rattle.values.specs.Cells.{value_of}
use Rattle.relations.specs.MadeColumns.{marked_value}
use Rattle.relations.proofs.made_columns.cells_of.Given as goal

abbrev pub invariant-loop-number : goal.invariant-loop-number
invariant-loop-number l = map value_of l.cells.items ≡ map marked_value (take l.number-index l.numbers)
