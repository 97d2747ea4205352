use Rattle.std.proofs.Common.{}
use Rattle.laws.proofs.Rewrites.{conditions_go_below}
use Rattle.laws.proofs.rewriting.conditions_go_below.Goals as goal

pub returns : goal.returns
returns c = conditions_go_below
