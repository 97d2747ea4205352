use Rattle.std.proofs.Common.{ap, sym, ◌∙◌, ◌++◌, append_assoc, codes}
use Rattle.std.proofs.lemmas.Result.{on_ok_weaker}
use Rattle.explain.proofs.ColumnNames.{stored-here}
use Rattle.explain.proofs.names.push_stored.Goals as goal

pub returns-in-Some : goal.returns-in-Some
returns-in-Some c =
    let old = c.args.text.now.items in
    let before = c.args.before.now in
    let named = c.table-item.result.name ++ (codes "." ++ c.in-Some.own.now.name) in
    let here = stored-here c.args.tables.now c.loop-table.table-index c.args.column c.table-item.result c.in-Some.own.now c.loop-table-test.true c.table-item.is c.in-Some.ensures in
    on_ok_weaker c.push_own.result
    (λ last. last ∙ ap (λ x. x ++ named) c.loop-table.invariant.0 ∙ append_assoc old before named ∙ ap (λ name. old ++ (before ++ name)) (sym (c.loop-table.invariant.1 ∙ here))) c.push_own.ensures
