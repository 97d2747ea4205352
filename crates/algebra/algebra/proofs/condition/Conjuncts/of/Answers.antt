use Rattle.algebra.proofs.ConjunctLists.{are_conjuncts}
use Rattle.algebra.proofs.condition.Conjuncts.of.Goals as goal

pub from_items-requires : goal.from_items-requires
from_items-requires c = rw (c.in_ok-in_order.ensures, c.in_ok-add_all_parts.ensures, c.new-parts.ensures.items) (are_conjuncts c.args.conditions.now)
