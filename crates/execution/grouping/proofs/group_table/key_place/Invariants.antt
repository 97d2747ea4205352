use Rattle.std.proofs.Common.{◌≡◌, drop}
use Rattle.algebra.specs.Columns.{has}
use Rattle.grouping.proofs.group_table.key_place.Given as goal

abbrev pub invariant-loop-place : goal.invariant-loop-place
invariant-loop-place l = has l.keys l.column ≡ has (drop l.place l.keys) l.column
