use Rattle.std.proofs.Common.{◌∙◌, ap, map, Err, inl, inr}
use Rattle.std.proofs.lemmas.Result.{err_from_is_err_and, on_err_weaker, IfErr-weaker, IfOk-weaker}
use Rattle.std.specs.Io.KnownBytes.{Appends}
use Rattle.answer_text.specs.AnswerText.{HasFront}
use Rattle.pipeline.proofs.Answered.{measured, of_fault, unprepared_queried, planned, write_after, write_device, write_refused}
use Rattle.pipeline.proofs.Prepared.{query_bound}
use Rattle.pipeline.proofs.commands.answered.Goals as goal

pub returns-in_err-ready-clause-refused : goal.returns-in_err-ready-clause-refused
returns-in_err-ready-clause-refused g c =
    let p = err_from_is_err_and c.from_residual-in_err-ready.result c.from_residual-in_err-ready.ensures.1 in
    of_fault c.from_residual-in_err-ready.result c.in_err-ready.field-0.0 _ (p.1 ∙ ap Err p.2)
    (unprepared_queried c.args.schema.now c.args.text.now c.in_ok-schema.schema (map g.R.TableInput.remaining c.args.tables.now) c.in_err-ready.field-0.0 c.in_ok-schema.ensures.exact c.in_err-ready.ensures.refused)

pub returns-clause-answered : goal.returns-clause-answered
returns-clause-answered g c = IfOk-weaker c.answer_by_plan.result _ _
    (λ told. measured c.args.report c.args.schema.now c.args.text.now (map g.R.TableInput.remaining c.args.tables.now) c.in_ok-schema.schema c.in_ok-ready.ready.query c.in_ok-ready.ready.database
    (Appends (g.W.AnswerOutput.contents c.args.out.now) (g.W.AnswerOutput.contents c.answer_by_plan.new.out)) told.items c.in_ok-schema.ensures.exact c.in_ok-ready.ensures.prepared)
    c.answer_by_plan.ensures.answered

pub returns-clause-refused : goal.returns-clause-refused
returns-clause-refused g c = IfErr-weaker c.answer_by_plan.result _ _
    (λ r. write_refused c.args.schema.now c.args.text.now c.in_ok-schema.schema c.in_ok-ready.ready.query c.in_ok-ready.ready.database (map g.R.TableInput.remaining c.args.tables.now) _ _ r
    c.in_ok-schema.ensures.exact c.in_ok-ready.ensures.prepared)
    c.answer_by_plan.ensures.fails

pub returns-clause-front : goal.returns-clause-front
returns-clause-front g c = on_err_weaker c.answer_by_plan.result
    (λ h. elim h [
      | inl same ↦ inl same
      | inr more ↦ inr (planned c.args.schema.now c.args.text.now (map g.R.TableInput.remaining c.args.tables.now) c.in_ok-schema.schema c.in_ok-ready.ready.query c.in_ok-ready.ready.database
          (HasFront (g.W.AnswerOutput.contents c.args.out.now) (g.W.AnswerOutput.contents c.answer_by_plan.new.out)) c.in_ok-schema.ensures.exact c.in_ok-ready.ensures.prepared more)
    ])
    c.answer_by_plan.ensures.front

pub answer_by_plan-requires-clause-bound : goal.answer_by_plan-requires-clause-bound
answer_by_plan-requires-clause-bound g c = query_bound c.args.text.now c.in_ok-schema.schema c.in_ok-ready.ready.query c.in_ok-ready.ensures.prepared.is_query

pub returns-clause-untouched : goal.returns-clause-untouched
returns-clause-untouched g c = IfErr-weaker c.answer_by_plan.result _ _ (λ r fault before. absurd (write_after _ _ _ r fault before)) c.answer_by_plan.ensures.fails

pub returns-clause-device : goal.returns-clause-device
returns-clause-device g c = IfErr-weaker c.answer_by_plan.result _ _ (λ r. write_device _ _ _ _ _ r c.in_ok-ready.ensures.quiet) c.answer_by_plan.ensures.fails
