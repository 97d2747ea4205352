use Rattle.algebra.proofs.ConjunctLists.{no_conjuncts}
use Rattle.algebra.proofs.condition.Conjuncts.none.Goals as goal

pub invariant_of-result : goal.invariant_of-result
invariant_of-result c = rw c.new.ensures no_conjuncts
