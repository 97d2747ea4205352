use Rattle.std.proofs.Common.{◌≡◌, drop, List}
use Rattle.algebra.specs.Bags.{Env}
use Rattle.algebra.specs.Expressions.{with_aggregates}
use Rattle.grouping.proofs.totals.Totals.cell.Given as goal

abbrev pub invariant-loop-number : goal.invariant-loop-number
invariant-loop-number l = (rows : List Env) (r : Env) → with_aggregates l.added rows r l.column ≡ with_aggregates (drop l.number l.added) rows r l.column
