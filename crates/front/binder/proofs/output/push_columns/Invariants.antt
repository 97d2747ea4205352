use Rattle.std.proofs.Common.{◌≡◌, ◌+◌, ◌++◌, drop}
use Rattle.binder.specs.Outputs.{columns_from}
use Rattle.binder.proofs.output.push_columns.Given as goal

abbrev pub invariant-loop-column : goal.invariant-loop-column
invariant-loop-column l = record {
  place : l.place ≡ l.first_place + l.column-index;
  pushed : l.outputs ++ columns_from l.place (drop l.column-index l.columns) ≡ l.fn.outputs ++ columns_from l.first_place l.columns;
}
