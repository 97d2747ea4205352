use Rattle.std.proofs.Common.{◌∙◌, ap, Err}
use Rattle.std.proofs.lemmas.Result.{err_from_is_err_and}
use Rattle.pipeline.specs.Refusals.{of_check}
use Rattle.pipeline.proofs.Answered.{of_fault}
use Rattle.pipeline.proofs.Explaining.{only_memory}
use Rattle.pipeline.proofs.measured.report_in.Goals as goal

pub returns-in_err-log-clause-memory : goal.returns-in_err-log-clause-memory
returns-in_err-log-clause-memory c =
    let p = err_from_is_err_and c.from_residual.result c.from_residual.ensures.1 in
    of_fault c.from_residual.result (of_check c.in_err-log.field-0.0) _ (p.1 ∙ ap Err p.2)
    (only_memory c.in_err-log.field-0.0 c.args.query.now c.args.certificate.now c.requires.replays c.in_err-log.ensures.verdict)
