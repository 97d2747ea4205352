use Rattle.std.proofs.Common.{◌∙◌, ap, map, Err, inl, inr}
use Rattle.std.proofs.lemmas.Result.{err_from_is_err_and, on_ok_weaker, on_err_weaker, IfErr-weaker}
use Rattle.std.specs.Io.KnownBytes.{Appends}
use Rattle.answer_text.specs.AnswerText.{HasFront}
use Rattle.pipeline.proofs.Answered.{of_fault, write_after, write_device, write_fault_weaker}
use Rattle.pipeline.proofs.Acceptance.{checked_itself, load_not_answered, long_itself, answer_not_answered, by_files}
use Rattle.pipeline.proofs.certified.answer_by_certificate.Goals as goal

pub returns-in_err-database-clause-refused : goal.returns-in_err-database-clause-refused
returns-in_err-database-clause-refused g c =
    let p = err_from_is_err_and c.from_residual-in_err-database.result c.from_residual-in_err-database.ensures.1 in
    of_fault c.from_residual-in_err-database.result c.in_err-database.field-0.0 _ (p.1 ∙ ap Err p.2)
    (load_not_answered c.args.schema.now c.args.query.now c.args.certificate.now (map g.R.TableInput.remaining c.args.tables.now) c.in_err-database.field-0.0
    (checked_itself c.in_ok-checked.checked c.args.schema.now c.args.query.now c.args.certificate.now c.in_ok-checked.ensures.of c.in_ok-checked.ensures.verdict c.certificate-certificate.ensures.checked)
    c.in_err-database.ensures.fails)

pub returns-clause-answered : goal.returns-clause-answered
returns-clause-answered g c = on_ok_weaker c.answer_by.result
    (by_files c.in_ok-checked.checked c.args.schema.now c.args.query.now c.args.certificate.now (map g.R.TableInput.remaining c.args.tables.now) c.in_ok-database.database
    (Appends (g.W.AnswerOutput.contents c.args.out.now) (g.W.AnswerOutput.contents c.answer_by.new.out)) c.in_ok-checked.ensures.of c.in_ok-checked.ensures.verdict c.in_ok-database.ensures.loaded)
    c.answer_by.ensures.answered

pub returns-clause-refused : goal.returns-clause-refused
returns-clause-refused g c = IfErr-weaker c.answer_by.result _ _
    (λ r fault. answer_not_answered c.args.schema.now c.args.query.now c.args.certificate.now (map g.R.TableInput.remaining c.args.tables.now) c.in_ok-database.database _ _ r
    (checked_itself c.in_ok-checked.checked c.args.schema.now c.args.query.now c.args.certificate.now c.in_ok-checked.ensures.of c.in_ok-checked.ensures.verdict c.certificate-certificate.ensures.checked)
    c.in_ok-database.ensures.loaded
    (write_fault_weaker _ _ _ _ r (long_itself c.in_ok-checked.checked c.args.schema.now c.args.query.now c.args.certificate.now c.in_ok-database.database.tables c.in_ok-checked.ensures.of c.in_ok-checked.ensures.verdict) fault))
    c.answer_by.ensures.fails

pub returns-clause-front : goal.returns-clause-front
returns-clause-front g c = on_err_weaker c.answer_by.result
    (λ h. elim h [
      | inl same ↦ inl same
      | inr more ↦ inr (by_files c.in_ok-checked.checked c.args.schema.now c.args.query.now c.args.certificate.now (map g.R.TableInput.remaining c.args.tables.now) c.in_ok-database.database
          (HasFront (g.W.AnswerOutput.contents c.args.out.now) (g.W.AnswerOutput.contents c.answer_by.new.out)) c.in_ok-checked.ensures.of c.in_ok-checked.ensures.verdict c.in_ok-database.ensures.loaded more)
    ])
    c.answer_by.ensures.front

pub returns-clause-untouched : goal.returns-clause-untouched
returns-clause-untouched g c = IfErr-weaker c.answer_by.result _ _ (λ r fault before. absurd (write_after _ _ _ r fault before)) c.answer_by.ensures.fails

pub returns-clause-device : goal.returns-clause-device
returns-clause-device g c = IfErr-weaker c.answer_by.result _ _ (λ r. write_device _ _ _ _ _ r c.in_ok-database.ensures.quiet) c.answer_by.ensures.fails
