use Rattle.std.proofs.Common.{◌∙◌, ap, length, Err, arith}
use Rattle.std.proofs.lemmas.Result.{err_from_is_err_and}
use Rattle.sqlplan.specs.declared.stop.Stop.TheVariants.{Memory}
use Rattle.sqlplan.specs.Stops.{SaysTable}
use Rattle.pipeline.proofs.Answered.{of_fault}
use Rattle.sqlplan.proofs.open_tables.Goals as goal

pub returns-in_err-path-clause-fails : goal.returns-in_err-path-clause-fails
returns-in_err-path-clause-fails c =
    let p = err_from_is_err_and c.from_residual.result c.from_residual.ensures.1 in
    of_fault c.from_residual.result Memory (SaysTable c.args.schema.now c.args.folder.now) (p.1 ∙ ap Err p.2)
    (c.loop-table.table-index, omega (arith, c.loop-table-test.true, ap length c.as_slice-table-items.ensures), tt)

pub returns-in_err-push-in-Ok-clause-fails : goal.returns-in_err-push-in-Ok-clause-fails
returns-in_err-push-in-Ok-clause-fails c =
    let p = err_from_is_err_and c.from_residual-in_err-push-in-Ok.result c.from_residual-in_err-push-in-Ok.ensures.1 in
    of_fault c.from_residual-in_err-push-in-Ok.result Memory (SaysTable c.args.schema.now c.args.folder.now) (p.1 ∙ ap Err p.2)
    (c.loop-table.table-index, omega (arith, c.loop-table-test.true, ap length c.as_slice-table-items.ensures), tt)
