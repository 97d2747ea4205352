use Rattle.std.proofs.Common.{rules, sym}
use Rattle.pipeline.proofs.refusal.check_line.Goals as goal

pub returns-in-None : goal.returns-in-None
returns-in-None c = rw (sym c.in-None.ensures) (search rules)
