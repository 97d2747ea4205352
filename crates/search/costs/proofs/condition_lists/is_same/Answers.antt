use Rattle.algebra.proofs.Same.{tested_condition}
use Rattle.costs.proofs.condition_lists.is_same.Goals as goal

pub returns : goal.returns
returns c = tested_condition c.same.result c.args.condition.now c.args.other.now c.same.ensures
