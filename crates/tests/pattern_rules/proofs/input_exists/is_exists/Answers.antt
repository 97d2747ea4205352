use Rattle.algebra.proofs.Same.{tested_condition}
use Rattle.pattern_rules.proofs.input_exists.is_exists.Goals as goal

pub returns : goal.returns
returns c = tested_condition c.same.result _ _ c.same.ensures
