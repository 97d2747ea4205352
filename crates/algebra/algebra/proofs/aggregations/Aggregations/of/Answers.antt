use Rattle.algebra.proofs.AggregateLists.{are_by_column}
use Rattle.algebra.proofs.aggregations.Aggregations.of.Goals as goal

pub invariant_of-result : goal.invariant_of-result
invariant_of-result c = rw (c.from_vec.ensures, c.in_ok-in_order.ensures) (are_by_column c.args.added.now)
