use Rattle.std.proofs.Common.{rules}
use Rattle.algebra.specs.ConjunctOrder.{AreRising}
use Rattle.algebra.proofs.ConjunctLists.{rising_are_conjuncts}
use Rattle.algebra.proofs.condition.Conjuncts.from_rising.Goals as goal

pub from_items-requires : goal.from_items-requires
from_items-requires c = let rising : AreRising c.args.conditions = search rules in rising_are_conjuncts c.args.conditions rising
