use Rattle.std.proofs.Common.{rules}
use Rattle.std.proofs.lemmas.List.Sorted.{IsPartitionPoint-from_clause}
use Rattle.algebra.specs.ConjunctOrder.{goes_before}
use Rattle.algebra.proofs.Searches.{parted}
use Rattle.algebra.proofs.conjunct_order.count_before.Goals as goal

pub returns-clause-before : goal.returns-clause-before
returns-clause-before c =
    IsPartitionPoint-from_clause (λ d. goes_before d c.args.new.now) _ _ c.partition_point.ensures.partitioned (parted c.args.new.now c.args.order.now c.requires) (λ a r q k. search rules)
