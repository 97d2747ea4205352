use Rattle.std.proofs.Common.{◌∙◌, ap, map, Err}
use Rattle.std.proofs.lemmas.Result.{err_from_is_err_and}
use Rattle.pipeline.proofs.Answered.{of_fault}
use Rattle.pipeline.proofs.Prepared.{load_unprepared}
use Rattle.pipeline.proofs.preparation.prepare.Goals as goal

pub returns-in_err-database-clause-refused : goal.returns-in_err-database-clause-refused
returns-in_err-database-clause-refused g c =
    let p = err_from_is_err_and c.from_residual-in_err-database.result c.from_residual-in_err-database.ensures.1 in
    of_fault c.from_residual-in_err-database.result c.in_err-database.field-0.0 _ (p.1 ∙ ap Err p.2)
    (load_unprepared c.args.text.now c.args.schema.now c.in_ok-query.query (map g.R.TableInput.remaining c.args.tables.now) c.in_err-database.field-0.0 c.in_ok-query.ensures.ok c.in_err-database.ensures.fails)
