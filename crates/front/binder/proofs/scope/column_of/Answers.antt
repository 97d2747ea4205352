use Rattle.std.proofs.Common.{◌∙◌, ap, sym, Ok}
use Rattle.binder.specs.Scopes.{at_level}
use Rattle.binder.proofs.Indexes.{column-none, column-some}
use Rattle.binder.proofs.scope.column_of.Goals as goal

pub returns-in_default : goal.returns-in_default
returns-in_default c =
    let p = c.args.placed in
    let found = rw (c.as_slice-columns.ensures, c.as_str.ensures, c.in_default.is) at c.find_column.ensures in
    rw c.refused.ensures (column-none c.args.table.now c.args.name.now c.args.level p.first_place p.entry.now (sym found))

pub returns : goal.returns
returns c =
    let p = c.args.placed in
    let found = rw (c.as_slice-columns.ensures, c.as_str.ensures, c.in-Some.is) at c.find_column.ensures in
    column-some c.args.table.now c.args.name.now c.args.level p.first_place c.in-Some.place p.entry.now c.in-Some.column.now (sym found)
    ∙ ap (λ k. Ok (at_level c.args.level (k, c.in-Some.column.now.kind))) (sym c.in_ok-place.ensures)
