use Rattle.std.proofs.Common.{◌≡◌, map, take}
use Rattle.relations.specs.MadeColumns.{made_values}
use Rattle.relations.specs.RowColumns.{column_value}
use Rattle.grouping.specs.RowNumbers.{numbers_in}
use Rattle.grouping.proofs.groups.first_column.Given as goal

abbrev pub invariant-loop-group : goal.invariant-loop-group
invariant-loop-group l = made_values l.made ≡ map (column_value l.values) (take l.group (numbers_in l.groups.firsts))
