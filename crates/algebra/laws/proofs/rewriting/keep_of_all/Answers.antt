use Rattle.std.proofs.Common.{}
use Rattle.laws.proofs.Rewrites.{keep_of_all}
use Rattle.laws.proofs.rewriting.keep_of_all.Goals as goal

pub returns : goal.returns
returns c = keep_of_all
