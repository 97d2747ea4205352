use Rattle.std.proofs.Common.{◌≡◌, drop, List}
use Rattle.algebra.specs.Bags.{Env}
use Rattle.algebra.specs.Expressions.{with_aggregates}
use Rattle.grouping.proofs.groups.group_column.Given as goal

abbrev pub invariant-loop-added : goal.invariant-loop-added
invariant-loop-added l = (rows : List Env) (r : Env) → with_aggregates l.grouping.added.now rows r l.column ≡ with_aggregates (drop l.added-index l.grouping.added.now) rows r l.column
