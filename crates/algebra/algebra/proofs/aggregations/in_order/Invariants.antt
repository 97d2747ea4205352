use Rattle.std.proofs.Common.{◌≡◌, ◌++◌, List, length}
use Rattle.algebra.specs.declared.expr.Aggregation.{Aggregation}
use Rattle.algebra.specs.AggregateOrder as spec
use Rattle.algebra.proofs.aggregations.in_order.Given as goal

-- the aggregates that were taken are in order
abbrev pub invariant-loop-new : goal.invariant-loop-new
invariant-loop-new l = (taken : List Aggregation) × (l.left.items ++ taken ≡ l.added) × (l.order.items ≡ spec.by_column taken)

abbrev pub decreases-loop-new : goal.decreases-loop-new
decreases-loop-new l = length l.left.items
