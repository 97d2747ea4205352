use Rattle.std.proofs.Common.{ap}
use Rattle.cursors.specs.Cursors.{opened}
use Rattle.cursors.proofs.cursor.Cursor.open.Goals as goal

pub returns : goal.returns
returns c = λ S. ap opened (c.in_ok-shown.ensures _ _ (c.in_ok-opened.ensures S))
