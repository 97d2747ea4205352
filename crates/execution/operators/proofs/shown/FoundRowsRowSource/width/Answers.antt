use Rattle.operators.proofs.ShownRows.{shown-width}
use Rattle.operators.proofs.shown.FoundRowsRowSource.width.Goals as goal

pub returns : goal.returns
returns c = rw (c.len.ensures, ← c.self.view_is) (shown-width c.self.inside.rows c.self.inside.places)
