use Rattle.std.proofs.Common.{}
use Rattle.laws.proofs.Rewrites.{keeps_merge}
use Rattle.laws.proofs.rewriting.keeps_merge.Goals as goal

pub returns : goal.returns
returns c = keeps_merge
