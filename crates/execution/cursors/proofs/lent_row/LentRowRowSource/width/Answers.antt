use Rattle.std.proofs.Common.{sym}
use Rattle.cursors.proofs.lent_row.LentRowRowSource.width.Goals as goal

pub returns : goal.returns
returns c = (sym c.len.ensures, tt)
