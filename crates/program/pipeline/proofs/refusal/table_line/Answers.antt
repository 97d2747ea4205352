use Rattle.std.proofs.Common.{rules, sym}
use Rattle.std.proofs.lemmas.List.{append-nil}
use Rattle.pipeline.proofs.refusal.table_line.Goals as goal

pub returns-in-Some : goal.returns-in-Some
returns-in-Some c = rw (sym c.in-Some.ensures) (search rules)

pub returns-in-None : goal.returns-in-None
returns-in-None c = rw (sym c.in-None.ensures, append-nil) (search rules)
