use Rattle.certificate.proofs.Answers.{checked}
use Rattle.certificate.proofs.soundness.replay_is_sound.Goals as goal

pub returns : goal.returns
returns c = checked
