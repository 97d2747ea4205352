use Rattle.certificate.proofs.FrameLines.{frame_replays}
use Rattle.certificate.proofs.soundness.frames_replay.Goals as goal

pub returns : goal.returns
returns c = frame_replays
