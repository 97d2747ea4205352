use Rattle.std.proofs.Common.{}
use Rattle.laws.proofs.Rewrites.{joins_commute}
use Rattle.laws.proofs.rewriting.joins_commute.Goals as goal

pub returns : goal.returns
returns c = joins_commute
