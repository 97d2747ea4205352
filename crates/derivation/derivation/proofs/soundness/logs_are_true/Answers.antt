use Rattle.std.proofs.Common.{}
use Rattle.derivation.proofs.Truth.{logs_true}
use Rattle.derivation.proofs.soundness.logs_are_true.Goals as goal

pub returns : goal.returns
returns c = logs_true
