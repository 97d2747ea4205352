use Rattle.std.proofs.Common.{ap, sym, ◌∙◌, length}
use Rattle.operators.proofs.ShownRows.{shown-length}
use Rattle.operators.proofs.shown.FoundRowsRowSource.len.Goals as goal

pub returns : goal.returns
returns c = sym (shown-length c.self.inside.rows c.self.inside.places) ∙ ap length c.self.view_is
