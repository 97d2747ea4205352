use Rattle.std.proofs.Common.{}
use Rattle.laws.proofs.Rewrites.{keeps_go_below}
use Rattle.laws.proofs.rewriting.keeps_go_below.Goals as goal

pub returns : goal.returns
returns c = keeps_go_below
