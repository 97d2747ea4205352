use Rattle.std.proofs.Common.{subst, []}
use Rattle.joins.specs.Keys.{IsProbe}
use Rattle.joins.proofs.chunking.table_of.Goals as goal

pub returns-in-Sure : goal.returns-in-Sure
returns-in-Sure c = λ C left right e is. c.into_keyed.ensures C left right e (subst (IsProbe C [] left right e) c.in-Sure.is is)
