use Rattle.std.proofs.Common.{}
use Rattle.algebra.proofs.Alike.{alike_is_free}
use Rattle.laws.proofs.alike.alike_is_free.Goals as goal

pub returns : goal.returns
returns c = alike_is_free
