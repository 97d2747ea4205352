use Rattle.store.proofs.ColumnRows.{have_width}
use Rattle.store.proofs.columns.ColumnStore.width.Goals as goal

pub returns : goal.returns
returns c = rw (c.as_slice.ensures.value, ← c.self.view_is) (have_width c.self.inside.columns.items c.self.inside.count)
