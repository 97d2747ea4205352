use Rattle.std.proofs.Common.{◌∙◌, ap, Err, inr}
use Rattle.std.proofs.lemmas.Result.{err_from_is_err_and}
use Rattle.std.specs.Io.KnownBytes.{Appends}
use Rattle.answer_text.specs.AnswerText.{HasFront}
use Rattle.pipeline.specs.Refusals.{of_write}
use Rattle.pipeline.proofs.Answered.{of_fault, on_fault, by_certificate, long_answer, write_fault}
use Rattle.pipeline.proofs.answer.answer_by.Goals as goal

pub returns-in_err-write_answer-clause-front : goal.returns-in_err-write_answer-clause-front
returns-in_err-write_answer-clause-front g c =
    let p = err_from_is_err_and c.from_residual.result c.from_residual.ensures.1 in
    on_fault c.from_residual.result (of_write c.in_err-write_answer.field-0.0) _ (p.1 ∙ ap Err p.2)
    (inr (by_certificate c.args.database.now c.args.checked.now (HasFront (g.W.AnswerOutput.contents c.args.out.now) (g.W.AnswerOutput.contents c.write_answer.new.out))
    c.requires c.certificate-certificate.ensures.checked c.in_err-write_answer.ensures.front))

pub returns-in_err-write_answer-clause-fails : goal.returns-in_err-write_answer-clause-fails
returns-in_err-write_answer-clause-fails g c =
    let p = err_from_is_err_and c.from_residual.result c.from_residual.ensures.1 in
    of_fault c.from_residual.result (of_write c.in_err-write_answer.field-0.0) _ (p.1 ∙ ap Err p.2)
    (write_fault _ _ _ c.in_err-write_answer.field-0.0 (λ is. long_answer c.args.database.now c.args.checked.now c.requires c.certificate-certificate.ensures.checked (c.in_err-write_answer.ensures.many is))
    c.in_err-write_answer.ensures.device c.in_err-write_answer.ensures.others)

pub returns-clause-answered : goal.returns-clause-answered
returns-clause-answered g c = by_certificate c.args.database.now c.args.checked.now (Appends (g.W.AnswerOutput.contents c.args.out.now) (g.W.AnswerOutput.contents c.write_answer.new.out))
    c.requires c.certificate-certificate.ensures.checked c.in_ok-write_answer.ensures.ok
