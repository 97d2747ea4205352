use Rattle.std.proofs.Common.{◌∙◌, ◌<◌, length, ap, rules}
use Rattle.store.specs.StoredColumns.{Kept}
use Rattle.store.proofs.ColumnRows.{place_below, cell_of_rows, has_there}
use Rattle.store.proofs.columns.ColumnStore.cell.Goals as goal

pub offset_bounds-as_slice-column : goal.offset_bounds-as_slice-column
offset_bounds-as_slice-column c =
    let is = ap (λ (k : Kept). k.rows) c.self.view_is in
    let below = (place_below c.self.inside.columns.items c.self.inside.count c.args.self.now.rows c.args.row c.args.column is c.requires.row c.requires.column).1 in
    let here : c.args.column < length c.as_slice.result.now = rw c.as_slice.ensures.value below in
    search rules

pub bounds-as_slice-column : goal.bounds-as_slice-column
bounds-as_slice-column c =
    let is = ap (λ (k : Kept). k.rows) c.self.view_is in
    rw c.as_slice.ensures.value (place_below c.self.inside.columns.items c.self.inside.count c.args.self.now.rows c.args.row c.args.column is c.requires.row c.requires.column).1

pub cell-requires-clause-known : goal.cell-requires-clause-known
cell-requires-clause-known c =
    let is = ap (λ (k : Kept). k.rows) c.self.view_is in
    let below = place_below c.self.inside.columns.items c.self.inside.count c.args.self.now.rows c.args.row c.args.column is c.requires.row c.requires.column in
    let has = has_there c.self.inside.columns.items c.self.inside.count c.args.column c.index-as_slice-column.result c.self.invariant below.1 (rw c.as_slice.ensures.value at c.index-as_slice-column.is) in
    rw has.known below.0

pub cell-requires-clause-entry : goal.cell-requires-clause-entry
cell-requires-clause-entry c =
    let is = ap (λ (k : Kept). k.rows) c.self.view_is in
    let below = place_below c.self.inside.columns.items c.self.inside.count c.args.self.now.rows c.args.row c.args.column is c.requires.row c.requires.column in
    let has = has_there c.self.inside.columns.items c.self.inside.count c.args.column c.index-as_slice-column.result c.self.invariant below.1 (rw c.as_slice.ensures.value at c.index-as_slice-column.is) in
    rw has.entries below.0

pub returns : goal.returns
returns c =
    let is = ap (λ (k : Kept). k.rows) c.self.view_is in
    let below = place_below c.self.inside.columns.items c.self.inside.count c.args.self.now.rows c.args.row c.args.column is c.requires.row c.requires.column in
    c.cell.ensures ∙ cell_of_rows c.self.inside.columns.items c.self.inside.count c.args.self.now.rows c.args.row c.args.column c.index-as_slice-column.result is below.0 below.1 (rw c.as_slice.ensures.value at c.index-as_slice-column.is)
