use Rattle.std.proofs.Common.{◌∙◌, length, sym, ap}
use Rattle.store.specs.StoredColumns.{Kept}
use Rattle.store.proofs.ColumnRows.{length_rows}
use Rattle.store.proofs.columns.ColumnStore.len.Goals as goal

pub returns : goal.returns
returns c = sym (length_rows c.self.inside.columns.items c.self.inside.count) ∙ ap (λ (k : Kept). length k.rows) c.self.view_is
