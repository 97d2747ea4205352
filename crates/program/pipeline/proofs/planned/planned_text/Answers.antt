use Rattle.std.proofs.Common.{◌∙◌, ap, Err}
use Rattle.std.proofs.lemmas.Result.{err_from_is_err_and}
use Rattle.certificate.proofs.Answers.{checked}
use Rattle.certificate.proofs.NodeInputs.{nodes_have_inputs}
use Rattle.pipeline.specs.Refusals.{of_certificate}
use Rattle.pipeline.proofs.Answered.{of_fault}
use Rattle.pipeline.proofs.Planning.{unwritten}
use Rattle.pipeline.proofs.planned.planned_text.Goals as goal

pub returns-in_err-write-clause-refused : goal.returns-in_err-write-clause-refused
returns-in_err-write-clause-refused c =
    let p = err_from_is_err_and c.from_residual-in_err-write.result c.from_residual-in_err-write.ensures.1 in
    of_fault c.from_residual-in_err-write.result (of_certificate c.in_err-write.field-0.0) _ (p.1 ∙ ap Err p.2)
    (unwritten c.args.schema.now c.args.query.now c.in_ok-planned.planned.certificate c.in_err-write.field-0.0
    (checked c.args.schema.now c.args.query.now c.requires c.in_ok-planned.planned.certificate c.in_ok-planned.ensures.replays) c.in_err-write.ensures.text)

pub returns-clause-planned : goal.returns-clause-planned
returns-clause-planned c =
    let planned = c.in_ok-planned.planned.certificate in
    let replays = c.in_ok-planned.ensures.replays in
    (planned, checked c.args.schema.now c.args.query.now c.requires planned replays, (c.in_ok-write.ensures.text, c.in_ok-write.ensures.readable (nodes_have_inputs c.args.schema.now c.args.query.now c.requires planned replays)))
