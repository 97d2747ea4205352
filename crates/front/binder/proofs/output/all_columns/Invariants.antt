use Rattle.std.proofs.Common.{◌≡◌, ◌++◌, drop, map}
use Rattle.binder.specs.Lent.{known_of}
use Rattle.binder.specs.Outputs.{all_columns}
use Rattle.binder.proofs.output.all_columns.Given as goal

abbrev pub invariant-loop-table : goal.invariant-loop-table
invariant-loop-table l = l.outputs ++ all_columns l.place (map known_of (drop l.table-index l.table-items)) ≡ all_columns 0 (map known_of l.table-items)
