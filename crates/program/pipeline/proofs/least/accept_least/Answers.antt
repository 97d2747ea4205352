use Rattle.std.proofs.Common.{◌∙◌, ap, Err}
use Rattle.std.proofs.lemmas.Result.{err_from_is_err_and}
use Rattle.pipeline.specs.Refusals.{of_check}
use Rattle.pipeline.proofs.Answered.{of_fault}
use Rattle.pipeline.proofs.ShownLeast.{least_check_refused}
use Rattle.pipeline.proofs.least.accept_least.Goals as goal

pub returns-in_err-log-clause-refused : goal.returns-in_err-log-clause-refused
returns-in_err-log-clause-refused c =
    let p = err_from_is_err_and c.from_residual.result c.from_residual.ensures.1 in
    of_fault c.from_residual.result (of_check c.in_err-log.field-0.0) _ (p.1 ∙ ap Err p.2)
    (least_check_refused c.args.statistics.now c.args.query.now c.args.certificate.now c.args.labels.now c.in_err-log.field-0.0 c.in_err-log.ensures.verdict)
