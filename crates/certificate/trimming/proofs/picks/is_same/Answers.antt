use Rattle.algebra.proofs.Same.{tested_condition}
use Rattle.trimming.proofs.picks.is_same.Goals as goal

pub returns : goal.returns
returns c = tested_condition c.same.result _ _ c.same.ensures
