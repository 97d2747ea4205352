use Rattle.grouping.proofs.AllRows.{reads-column}
use Rattle.grouping.proofs.totals.with_rows.Goals as goal

pub returns-in-CountRows : goal.returns-in-CountRows
returns-in-CountRows g c = λ other. absurd (other c.in-CountRows.is)

pub returns-in-Count : goal.returns-in-Count
returns-in-Count g c = λ other. c.with_values.ensures

pub with_values-requires : goal.with_values-requires
with_values-requires g c = (c.requires.0, (c.requires.1.0, c.requires.1.1 (reads-column c.args.of c.in-Count.is)))
