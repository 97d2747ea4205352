use Rattle.std.proofs.Common.{sym, subst}
use Rattle.algebra.specs.ConjunctOrder.{IsInOrder}
use Rattle.algebra.proofs.ConjunctLists.{ordered-all}
use Rattle.algebra.proofs.conjunct_order.in_order.Goals as goal

pub put_in_order-requires : goal.put_in_order-requires
put_in_order-requires c = subst IsInOrder (sym c.loop-condition.invariant.2) (ordered-all c.loop-condition.invariant.0)
