use Rattle.std.proofs.Common.{}
use Rattle.algebra.proofs.Alike.{alike_is_same}
use Rattle.laws.proofs.alike.alike_is_same.Goals as goal

pub returns : goal.returns
returns c = alike_is_same
