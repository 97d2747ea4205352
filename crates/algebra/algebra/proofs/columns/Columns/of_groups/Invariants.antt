use Rattle.std.proofs.Common.{◌≡◌, ◌++◌, take}
use Rattle.algebra.specs.Expressions.{aggregate_columns}
use Rattle.algebra.proofs.columns.Columns.of_groups.Given as goal

abbrev pub invariant-loop-aggregation : goal.invariant-loop-aggregation
invariant-loop-aggregation l = l.columns.items ≡ l.keys ++ aggregate_columns (take l.aggregation-index l.added)
