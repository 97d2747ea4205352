use Rattle.frame.proofs.FormedQueries.{frames_formed}
use Rattle.frame.proofs.laws.frames_are_formed.Goals as goal

pub returns : goal.returns
returns c = frames_formed
