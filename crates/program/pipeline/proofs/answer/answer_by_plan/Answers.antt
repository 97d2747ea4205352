use Rattle.std.proofs.Common.{◌≡◌, ◌∙◌, ◌⊎◌, ap, sym, subst, false, Err, IfErr, OnOk, OnErr, inl, inr, refl}
use Rattle.std.proofs.lemmas.Result.{IfErr-weaker, IfOk-weaker, err_from_is_err_and}
use Rattle.std.specs.Io.KnownBytes.{Appends}
use Rattle.answer_text.specs.AnswerText.{HasFront}
use Rattle.query.specs.Rows.{tables_in}
use Rattle.measures.specs.Measures.{AreMeasured, plans_run}
use Rattle.pipeline.specs.EndToEnd.{ByPlan, HasLongAnswer, IsWriteFault}
use Rattle.pipeline.specs.Measured.{ByMeasured}
use Rattle.pipeline.proofs.Answered.{front_of_certificate, is_report, of_accepted, of_fault, on_any_fault, on_fault, reported_none, reported_some, write_fault_weaker}
use Rattle.pipeline.proofs.answer.answer_by_plan.Goals as goal

pub returns-in_err-answer_by-clause-front : goal.returns-in_err-answer_by-clause-front
returns-in_err-answer_by-clause-front g c =
    let certificate = c.in_ok-checked.checked.certificate in
    on_any_fault c.from_residual-in_err-answer_by.result _
    (of_accepted c.in_ok-checked.checked c.args.schema.now c.args.query.now
    (λ S q. (c.answer_by.new.out ≡ c.args.out.now) ⊎ ByPlan S q c.args.database.now.tables (HasFront (g.W.AnswerOutput.contents c.args.out.now) (g.W.AnswerOutput.contents c.answer_by.new.out)))
    (c.in_ok-checked.ensures.of.0, c.in_ok-checked.ensures.of.1 ∙ c.in_ok-prepared.ensures)
    (elim c.in_err-answer_by.ensures.front [
      | inl same ↦ inl same
      | inr more ↦ inr (certificate, more)
    ]))

pub returns-in_err-answer_by-clause-fails : goal.returns-in_err-answer_by-clause-fails
returns-in_err-answer_by-clause-fails g c =
    let p = err_from_is_err_and c.from_residual-in_err-answer_by.result c.from_residual-in_err-answer_by.ensures.1 in
    of_fault c.from_residual-in_err-answer_by.result c.in_err-answer_by.field-0.0 _ (p.1 ∙ ap Err p.2)
    (of_accepted c.in_ok-checked.checked c.args.schema.now c.args.query.now
    (λ S q. IsWriteFault (HasLongAnswer S q c.args.database.now.tables) (g.W.AnswerOutput.failures c.args.out.now) (g.W.AnswerOutput.failures c.answer_by.new.out) c.in_err-answer_by.field-0.0)
    (c.in_ok-checked.ensures.of.0, c.in_ok-checked.ensures.of.1 ∙ c.in_ok-prepared.ensures)
    (write_fault_weaker _ _ _ _ c.in_err-answer_by.field-0.0 (λ long. (c.in_ok-checked.checked.certificate, long)) c.in_err-answer_by.ensures.fails))

pub returns-in_default-clause-answered : goal.returns-in_default-clause-answered
returns-in_default-clause-answered g c =
    let checked = c.in_ok-checked.checked in
    let D = c.args.database.now.tables in
    of_accepted checked c.args.schema.now c.args.query.now (λ S q. ByMeasured c.args.report S q D (Appends (g.W.AnswerOutput.contents c.args.out.now) (g.W.AnswerOutput.contents c.answer_by.new.out)) c.new.result.items)
    (c.in_ok-checked.ensures.of.0, c.in_ok-checked.ensures.of.1 ∙ c.in_ok-prepared.ensures)
    (checked.certificate, c.in_ok-answer_by.ensures.answered, reported_none c.args.report checked.schema checked.query D checked.certificate c.new.result.items c.in_default.is c.new.ensures.items)

pub returns-in_err-nodes-clause-front : goal.returns-in_err-nodes-clause-front
returns-in_err-nodes-clause-front g c =
    let checked = c.in_ok-checked.checked in
    let D = c.args.database.now.tables in
    on_any_fault c.from_residual-in_err-nodes.result _
    (of_accepted checked c.args.schema.now c.args.query.now
    (λ S q. (c.answer_by.new.out ≡ c.args.out.now) ⊎ ByPlan S q D (HasFront (g.W.AnswerOutput.contents c.args.out.now) (g.W.AnswerOutput.contents c.answer_by.new.out)))
    (c.in_ok-checked.ensures.of.0, c.in_ok-checked.ensures.of.1 ∙ c.in_ok-prepared.ensures)
    (inr (checked.certificate, front_of_certificate checked.certificate checked.schema checked.query D _ _ c.in_ok-answer_by.ensures.answered)))

pub returns-clause-answered : goal.returns-clause-answered
returns-clause-answered g c =
    let checked = c.in_ok-checked.checked in
    let D = c.args.database.now in
    let over : D.schema ≡ checked.schema = c.requires.schema ∙ sym c.in_ok-checked.ensures.of.0 in
    let replays = sym c.in_ok-checked.ensures.verdict ∙ c.in_ok-planned.ensures.replays in
    let same : checked.certificate ≡ c.in_ok-planned.planned.certificate = cc in
    IfOk-weaker c.report_in.result _ _
    (λ text is. of_accepted checked c.args.schema.now c.args.query.now (λ S q. ByMeasured c.args.report S q D.tables (Appends (g.W.AnswerOutput.contents c.args.out.now) (g.W.AnswerOutput.contents c.answer_by.new.out)) text.items)
    (c.in_ok-checked.ensures.of.0, c.in_ok-checked.ensures.of.1 ∙ c.in_ok-prepared.ensures) (
      checked.certificate,
      c.in_ok-answer_by.ensures.answered,
      reported_some c.args.report c.in-Some.form checked.schema checked.query D.tables checked.certificate text.items c.in-Some.is
          (is_report c.in-Some.form checked.schema checked.query c.in_ok-prepared.prepared D checked.certificate c.in_ok-planned.planned.certificate c.in_ok-statistics.statistics c.as_slice.result.now c.as_slice-2.result.now text.items
          over c.in_ok-checked.ensures.of.1 same c.in_ok-statistics.ensures (subst (λ l. AreMeasured checked.query.tables (tables_in D) (plans_run false checked.certificate.plan) l) (sym c.as_slice-2.ensures.value) c.in_ok-nodes.ensures) is),
    ))
    c.report_in.ensures.text

pub returns-clause-front : goal.returns-clause-front
returns-clause-front g c =
    let checked = c.in_ok-checked.checked in
    let D = c.args.database.now.tables in
    on_any_fault c.report_in.result _
    (of_accepted checked c.args.schema.now c.args.query.now
    (λ S q. (c.answer_by.new.out ≡ c.args.out.now) ⊎ ByPlan S q D (HasFront (g.W.AnswerOutput.contents c.args.out.now) (g.W.AnswerOutput.contents c.answer_by.new.out)))
    (c.in_ok-checked.ensures.of.0, c.in_ok-checked.ensures.of.1 ∙ c.in_ok-prepared.ensures)
    (inr (checked.certificate, front_of_certificate checked.certificate checked.schema checked.query D _ _ c.in_ok-answer_by.ensures.answered)))

pub returns-clause-fails : goal.returns-clause-fails
returns-clause-fails g c = IfErr-weaker c.report_in.result _ _
    (λ r is. subst (IsWriteFault (HasLongAnswer c.args.schema.now c.args.query.now c.args.database.now.tables) (g.W.AnswerOutput.failures c.args.out.now) (g.W.AnswerOutput.failures c.answer_by.new.out)) (sym is) c.in_ok-answer_by.ensures.quiet)
    c.report_in.ensures.memory
