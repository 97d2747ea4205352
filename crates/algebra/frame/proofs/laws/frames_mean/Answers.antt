use Rattle.frame.proofs.FrameMeaning.{frame_means}
use Rattle.frame.proofs.laws.frames_mean.Goals as goal

pub returns : goal.returns
returns c = frame_means
