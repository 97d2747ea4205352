use Rattle.std.proofs.Common.{◌∙◌, ap, map, Err, inl, inr}
use Rattle.std.proofs.lemmas.Result.{err_from_is_err_and, on_ok_weaker, on_err_weaker, IfErr-weaker}
use Rattle.std.specs.Io.KnownBytes.{Appends}
use Rattle.answer_text.specs.AnswerText.{HasFront}
use Rattle.pipeline.specs.Refusals.{of_certificate}
use Rattle.pipeline.proofs.Answered.{of_fault}
use Rattle.pipeline.proofs.Prepared.{asks_prepared, query_bound}
use Rattle.pipeline.proofs.Acceptance.{not_accepted_run, text_not_accepted, not_answered_run, certified}
use Rattle.pipeline.proofs.certified.run.Goals as goal

pub returns-in_err-certificate-clause-refused : goal.returns-in_err-certificate-clause-refused
returns-in_err-certificate-clause-refused g c =
    let p = err_from_is_err_and c.from_residual-in_err-certificate.result c.from_residual-in_err-certificate.ensures.1 in
    of_fault c.from_residual-in_err-certificate.result (of_certificate c.in_err-certificate.field-0.0) _ (p.1 ∙ ap Err p.2)
    (not_accepted_run c.args.schema.now c.args.text.now c.args.certificate.now (map g.R.TableInput.remaining c.args.tables.now) (of_certificate c.in_err-certificate.field-0.0)
    (text_not_accepted c.args.schema.now c.args.text.now c.args.certificate.now c.in_ok-schema.schema c.in_ok-asked.asked c.in_err-certificate.field-0.0
    (record { is_schema = c.in_ok-schema.ensures.exact; is_query = c.in_ok-asked.ensures.ok }) c.in_err-certificate.ensures.complete c.in_err-certificate.ensures.refused))

pub answer_by_certificate-requires-clause-over : goal.answer_by_certificate-requires-clause-over
answer_by_certificate-requires-clause-over g c = (query_bound c.args.text.now c.in_ok-schema.schema c.in_ok-query.query (asks_prepared c.args.schema.now c.args.text.now c.in_ok-schema.schema c.in_ok-asked.asked c.in_ok-query.query c.in_ok-schema.ensures.exact c.in_ok-asked.ensures.ok c.in_ok-query.ensures).is_query).over

pub returns-clause-answered : goal.returns-clause-answered
returns-clause-answered g c = on_ok_weaker c.answer_by_certificate.result
    (certified c.args.schema.now c.args.text.now c.args.certificate.now (map g.R.TableInput.remaining c.args.tables.now) c.in_ok-schema.schema c.in_ok-query.query c.in_ok-certificate.certificate
    (Appends (g.W.AnswerOutput.contents c.args.out.now) (g.W.AnswerOutput.contents c.answer_by_certificate.new.out))
    (asks_prepared c.args.schema.now c.args.text.now c.in_ok-schema.schema c.in_ok-asked.asked c.in_ok-query.query c.in_ok-schema.ensures.exact c.in_ok-asked.ensures.ok c.in_ok-query.ensures) c.in_ok-certificate.ensures.sound)
    c.answer_by_certificate.ensures.answered

pub returns-clause-refused : goal.returns-clause-refused
returns-clause-refused g c = IfErr-weaker c.answer_by_certificate.result _ _
    (λ r. not_answered_run c.args.schema.now c.args.text.now c.args.certificate.now (map g.R.TableInput.remaining c.args.tables.now) c.in_ok-schema.schema c.in_ok-query.query c.in_ok-certificate.certificate r
    (asks_prepared c.args.schema.now c.args.text.now c.in_ok-schema.schema c.in_ok-asked.asked c.in_ok-query.query c.in_ok-schema.ensures.exact c.in_ok-asked.ensures.ok c.in_ok-query.ensures) c.in_ok-certificate.ensures.sound)
    c.answer_by_certificate.ensures.refused

pub returns-clause-front : goal.returns-clause-front
returns-clause-front g c = on_err_weaker c.answer_by_certificate.result
    (λ h. elim h [
      | inl same ↦ inl same
      | inr more ↦ inr (certified c.args.schema.now c.args.text.now c.args.certificate.now (map g.R.TableInput.remaining c.args.tables.now) c.in_ok-schema.schema c.in_ok-query.query c.in_ok-certificate.certificate
          (HasFront (g.W.AnswerOutput.contents c.args.out.now) (g.W.AnswerOutput.contents c.answer_by_certificate.new.out))
          (asks_prepared c.args.schema.now c.args.text.now c.in_ok-schema.schema c.in_ok-asked.asked c.in_ok-query.query c.in_ok-schema.ensures.exact c.in_ok-asked.ensures.ok c.in_ok-query.ensures) c.in_ok-certificate.ensures.sound more)
    ])
    c.answer_by_certificate.ensures.front
