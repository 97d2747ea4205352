use Rattle.std.proofs.Common.{arith}
use Rattle.std.proofs.lemmas.Result.{err_from_is_err_and}
use Rattle.serde_json.specs.View.{view}
use Rattle.schema.specs.Each.{each}
use Rattle.schema.proofs.Loops.{goes_on, ends, is_done}
use Rattle.statistics.specs.Entries.{named_in}
use Rattle.statistics.proofs.entries.each_table.Goals as goal

pub returns-in_err-named_table : goal.returns-in_err-named_table
returns-in_err-named_table c =
    let p = err_from_is_err_and c.from_residual.result c.from_residual.ensures.1 in
    let entries = view c.args.entries.now in
    rw (p.1, p.2) (ends (named_in entries) c.in_err-named_table.field-0.0 c.loop-table.read c.args.tables.now c.loop-table.table-index c.table-item.result (each (named_in entries) c.args.tables.now) (omega arith) c.table-item.is c.in_err-named_table.ensures c.loop-table.invariant)

pub loop-table-preserved : goal.loop-table-preserved
loop-table-preserved c =
    let entries = view c.args.entries.now in
    rw c.in_ok-push.ensures.ok (goes_on (named_in entries) c.loop-table.read c.args.tables.now c.loop-table.table-index c.table-item.result c.in_ok-named_table.field-0 (each (named_in entries) c.args.tables.now) (omega arith) c.table-item.is c.in_ok-named_table.ensures c.loop-table.invariant)

pub returns : goal.returns
returns c =
    let entries = view c.args.entries.now in
    is_done (named_in entries) c.loop-table.read c.args.tables.now c.loop-table.table-index (each (named_in entries) c.args.tables.now) (omega arith) c.loop-table.invariant
