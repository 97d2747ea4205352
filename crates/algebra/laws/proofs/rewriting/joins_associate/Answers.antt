use Rattle.std.proofs.Common.{}
use Rattle.laws.proofs.Rewrites.{joins_associate}
use Rattle.laws.proofs.rewriting.joins_associate.Goals as goal

pub returns : goal.returns
returns c = joins_associate
