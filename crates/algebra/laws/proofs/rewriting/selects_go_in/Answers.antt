use Rattle.std.proofs.Common.{}
use Rattle.laws.proofs.Rewrites.{selects_go_in}
use Rattle.laws.proofs.rewriting.selects_go_in.Goals as goal

pub returns : goal.returns
returns c = selects_go_in
