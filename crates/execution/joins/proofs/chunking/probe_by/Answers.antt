use Rattle.std.proofs.Common.{subst}
use Rattle.joins.specs.Keys.{IsTable}
use Rattle.joins.proofs.chunking.probe_by.Goals as goal

pub returns-in_ok-beside-in-Some : goal.returns-in_ok-beside-in-Some
returns-in_ok-beside-in-Some c = λ C right e is. c.in_ok-beside-in-Some.ensures C right e (subst (IsTable C c.args.left.now right e) c.in-Some.is is)
