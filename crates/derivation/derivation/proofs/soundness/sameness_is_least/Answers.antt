use Rattle.std.proofs.Common.{}
use Rattle.derivation.proofs.LeastEquivalence.{sameness_least}
use Rattle.derivation.proofs.soundness.sameness_is_least.Goals as goal

pub returns : goal.returns
returns c = sameness_least
