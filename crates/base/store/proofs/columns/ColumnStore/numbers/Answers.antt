use Rattle.std.proofs.Common.{ap}
use Rattle.store.specs.StoredColumns.{Kept}
use Rattle.store.proofs.ColumnRows.{numbers_lent}
use Rattle.store.proofs.columns.ColumnStore.numbers.Goals as goal

pub returns-in-Some : goal.returns-in-Some
returns-in-Some c =
    let is = ap (λ (k : Kept). k.rows) c.self.view_is in
    let found = c.in-Some.ensures.lookup in
    numbers_lent c.self.inside.columns.items c.self.inside.count c.args.self.now.rows c.args.column c.in-Some.cells.now c.numbers.result is c.self.invariant
    (rw c.as_slice.ensures.value at found.3.0) (rw c.as_slice.ensures.value at found.1) c.numbers.ensures.known c.numbers.ensures.entries
