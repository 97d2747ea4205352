use Rattle.std.proofs.Common.{ap}
use Rattle.store.specs.StoredColumns.{Kept}
use Rattle.store.proofs.ColumnRows.{texts_lent}
use Rattle.store.proofs.columns.ColumnStore.texts.Goals as goal

pub returns-in-Some : goal.returns-in-Some
returns-in-Some c =
    let is = ap (λ (k : Kept). k.rows) c.self.view_is in
    let found = c.in-Some.ensures.lookup in
    texts_lent c.self.inside.columns.items c.self.inside.count c.args.self.now.rows c.args.column c.in-Some.cells.now c.texts.result is c.self.invariant
    (rw c.as_slice.ensures.value at found.3.0) (rw c.as_slice.ensures.value at found.1) c.texts.ensures.known c.texts.ensures.entries
