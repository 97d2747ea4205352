use Rattle.std.proofs.Common.{◌≡◌, ◌++◌, flat_map, take}
use Rattle.algebra.specs.Expressions.{aggregate_reads}
use Rattle.plan_reads.proofs.operators.grouping_columns.Given as goal

abbrev pub invariant-loop-aggregation : goal.invariant-loop-aggregation
invariant-loop-aggregation l = l.read.items ≡ l.keys ++ flat_map (λ a. aggregate_reads a.aggregate) (take l.aggregation-index l.added)
