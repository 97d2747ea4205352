use Rattle.std.proofs.Common.{◌≡◌, ◌<◌, ◌^◌, ◌∙◌, ℕ, List, length, ap, sym, subst, OnOk, OnErr}
use Rattle.std.specs.Io.KnownBytes.{Appends}
use Rattle.query.specs.Answer.{IsAnswer}
use Rattle.answer_text.specs.AnswerText.{answer_text, HasFront}
use Rattle.query.specs.Rows.{tables_in}
use Rattle.cursors.specs.Cursors.{Progress}
use Rattle.pipeline.specs.Execution.{accepted_text}
use Rattle.answer_text.proofs.Sent.{front_of_nothing, on_err, on_ok}
use Rattle.pipeline.proofs.execution.write_answer.Goals as goal

pub returns-in_err-cursor-clause-front : goal.returns-in_err-cursor-clause-front
returns-in_err-cursor-clause-front g c = on_err _ (front_of_nothing _ _)

pub write_lent-requires-clause-handed : goal.write_lent-requires-clause-handed
write_lent-requires-clause-handed g c = ap (λ (p : Progress). p.handed) c.in_ok-cursor.ensures.rows

pub write_lent-requires-clause-fault : goal.write_lent-requires-clause-fault
write_lent-requires-clause-fault g c = ap (λ (p : Progress). p.fault) c.in_ok-cursor.ensures.rows

pub returns-clause-ok : goal.returns-clause-ok
returns-clause-ok g c =
    let query = c.args.checked.now.query in
    let is : answer_text c.query.result.now.names c.in_ok-cursor.cursor.to_come ≡ accepted_text c.args.checked.now c.args.database.now =
    ap (λ q. answer_text q.names c.in_ok-cursor.cursor.to_come) c.query.ensures ∙ ap (λ (p : Progress). answer_text query.names p.to_come) c.in_ok-cursor.ensures.rows in
    subst (λ (text : List ℕ). OnOk c.write_lent.result (Appends (g.W.AnswerOutput.contents c.args.out.now) (g.W.AnswerOutput.contents c.write_lent.new.out) text)) is c.write_lent.ensures.ok

pub returns-clause-front : goal.returns-clause-front
returns-clause-front g c =
    let query = c.args.checked.now.query in
    let is : answer_text c.query.result.now.names c.in_ok-cursor.cursor.to_come ≡ accepted_text c.args.checked.now c.args.database.now =
    ap (λ q. answer_text q.names c.in_ok-cursor.cursor.to_come) c.query.ensures ∙ ap (λ (p : Progress). answer_text query.names p.to_come) c.in_ok-cursor.ensures.rows in
    subst (λ (text : List ℕ). OnErr c.write_lent.result (HasFront (g.W.AnswerOutput.contents c.args.out.now) (g.W.AnswerOutput.contents c.write_lent.new.out) text)) is c.write_lent.ensures.front

pub returns-clause-answer : goal.returns-clause-answer
returns-clause-answer g c =
    let a = c.args.checked.now in
    let d = c.args.database.now in
    on_ok _ (subst (IsAnswer a.query (tables_in d)) (ap (λ (p : Progress). p.to_come) c.in_ok-cursor.ensures.rows) (c.in_ok-cursor.ensures.answers (sym c.requires)))

pub returns-clause-many : goal.returns-clause-many
returns-clause-many g c = λ fault. subst (λ (p : Progress). 2 ^ 62 < length p.to_come) c.in_ok-cursor.ensures.rows (c.write_lent.ensures.many fault)

pub returns-clause-handed : goal.returns-clause-handed
returns-clause-handed g c = c.write_lent.ensures.handed

pub returns-clause-device : goal.returns-clause-device
returns-clause-device g c = c.write_lent.ensures.device

pub returns-clause-quiet : goal.returns-clause-quiet
returns-clause-quiet g c = c.write_lent.ensures.quiet

pub returns-clause-others : goal.returns-clause-others
returns-clause-others g c = c.write_lent.ensures.others
