use Rattle.std.proofs.Common.{}
use Rattle.laws.proofs.Rewrites.{selects_merge}
use Rattle.laws.proofs.rewriting.selects_merge.Goals as goal

pub returns : goal.returns
returns c = selects_merge
