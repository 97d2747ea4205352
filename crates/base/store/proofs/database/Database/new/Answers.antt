use Rattle.std.proofs.Common.{◌≡◌, ◌∙◌, [], take, sym, ap, arith}
use Rattle.std.proofs.lemmas.List.{map_push, take_all}
use Rattle.values.proofs.Lists.{take_next}
use Rattle.schema.specs.declared.schema.Table.{Table}
use Rattle.schema.proofs.EmptyTables.{no-rows}
use Rattle.store.specs.StoredColumns.{Kept}
use Rattle.store.proofs.database.Database.new.Goals as goal

pub loop-entry-preserved : goal.loop-entry-preserved
loop-entry-preserved c =
    let next = take_next c.as_slice-entry-items.result.now c.loop-entry.entry-index c.entry-item.result (omega arith) c.entry-item.is in
    let before = take c.loop-entry.entry-index c.as_slice-entry-items.result.now in
    let none : c.new-table.result ≡ [] = c.new-table.ensures ∙ ap (λ (k : Kept). k.rows) c.in_ok-columns.ensures in
    rw (c.in_ok-push.ensures.items, c.loop-entry.invariant, none, next) (sym (map_push (λ (t : Table). []) before c.entry-item.result))

pub invariant_of-result : goal.invariant_of-result
invariant_of-result c =
    let all = take_all c.loop-entry.entry-index c.as_slice-entry-items.result.now (omega arith) in
    rw (c.loop-entry.invariant, all, c.as_slice-entry-items.ensures) (no-rows c.args.schema.now.tables)
