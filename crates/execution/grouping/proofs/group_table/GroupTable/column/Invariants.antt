use Rattle.std.proofs.Common.{◌≡◌, drop, List}
use Rattle.algebra.specs.Bags.{Env}
use Rattle.algebra.specs.Expressions.{with_aggregates}
use Rattle.grouping.proofs.group_table.GroupTable.column.Given as goal

abbrev pub invariant-loop-place : goal.invariant-loop-place
invariant-loop-place l = (rows : List Env) (r : Env) → with_aggregates l.grouping.added.now rows r l.column ≡ with_aggregates (drop l.place l.grouping.added.now) rows r l.column
