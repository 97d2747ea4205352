use Rattle.std.proofs.Common.{arith}
use Rattle.std.proofs.lemmas.Result.{err_from_is_err_and}
use Rattle.serde_json.specs.View.{view}
use Rattle.schema.specs.Each.{each}
use Rattle.schema.proofs.Loops.{goes_on, ends, is_done}
use Rattle.statistics.specs.Entries.{column_in}
use Rattle.statistics.proofs.entries.each_column.Goals as goal

pub returns-in_err-column_of : goal.returns-in_err-column_of
returns-in_err-column_of c =
    let p = err_from_is_err_and c.from_residual.result c.from_residual.ensures.1 in
    let entries = view c.args.entries.now in
    rw (p.1, p.2) (ends (column_in entries) c.in_err-column_of.field-0.0 c.loop-column.read c.args.columns.now c.loop-column.column-index c.column-item.result (each (column_in entries) c.args.columns.now) (omega arith) c.column-item.is c.in_err-column_of.ensures c.loop-column.invariant)

pub loop-column-preserved : goal.loop-column-preserved
loop-column-preserved c =
    let entries = view c.args.entries.now in
    rw c.in_ok-push.ensures.ok (goes_on (column_in entries) c.loop-column.read c.args.columns.now c.loop-column.column-index c.column-item.result c.in_ok-column_of.field-0 (each (column_in entries) c.args.columns.now) (omega arith) c.column-item.is c.in_ok-column_of.ensures c.loop-column.invariant)

pub returns : goal.returns
returns c =
    let entries = view c.args.entries.now in
    is_done (column_in entries) c.loop-column.read c.args.columns.now c.loop-column.column-index (each (column_in entries) c.args.columns.now) (omega arith) c.loop-column.invariant
