use Rattle.query.proofs.Worked.{worked}
use Rattle.query.proofs.laws.worked_rows_hold.Goals as goal

pub returns : goal.returns
returns c = worked
