use Rattle.std.proofs.Common.{}
use Rattle.derivation.proofs.Worked.{worked}
use Rattle.derivation.proofs.soundness.worked_logs_replay.Goals as goal

pub returns : goal.returns
returns c = worked
