use Rattle.std.proofs.Common.{◌≡◌, ◌∙◌, subst, true, List, ◌∷◌, Ok}
use Rattle.schema.specs.Databases.{Row}
use Rattle.answer_text.specs.AnswerText.{answer_text, IsUnderWay}
use Rattle.answer_text.proofs.Sent.{front_at_end, front_at_row, on_err, under_way_ends, under_way_more}
use Rattle.cursors.specs.Cursors.{IsStep}
use Rattle.pipeline.proofs.Lent.{lent_counted, lent_first, lent_none}
use Rattle.pipeline.proofs.execution.write_lent.Goals as goal

pub returns-in_err-writer-2-clause-front : goal.returns-in_err-writer-2-clause-front
returns-in_err-writer-2-clause-front g c =
    let old = c.loop-writer.cursor in
    let new = c.advance.new.self in
    let row : Row = c.in-Some.row in
    let first : old.to_come ≡ row ∷ new.to_come = lent_first old new c.in_ok-advance.field-0 c.row.result row c.if-branch.true c.in_ok-advance.ensures.step c.row.ensures c.in-Some.is in
    let under = subst (λ (rows : List Row). IsUnderWay (g.W.AnswerOutput.contents c.args.out.now) (g.W.AnswerOutput.contents c.loop-writer.out) c.loop-writer.writer.gathered.items rows (answer_text c.args.query.now.names c.args.cursor.now.to_come)) first c.loop-writer.invariant.written in
    on_err _ (front_at_row _ _ _ c.loop-writer.writer.gathered.items row new.to_come _ under c.in_err-writer-2.ensures.front)

pub loop-writer-preserved-in-Some : goal.loop-writer-preserved-in-Some
loop-writer-preserved-in-Some g c =
    let old = c.loop-writer.cursor in
    let new = c.advance.new.self in
    let row : Row = c.in-Some.row in
    let first : old.to_come ≡ row ∷ new.to_come = lent_first old new c.in_ok-advance.field-0 c.row.result row c.if-branch.true c.in_ok-advance.ensures.step c.row.ensures c.in-Some.is in
    let under = subst (λ (rows : List Row). IsUnderWay (g.W.AnswerOutput.contents c.args.out.now) (g.W.AnswerOutput.contents c.loop-writer.out) c.loop-writer.writer.gathered.items rows (answer_text c.args.query.now.names c.args.cursor.now.to_come)) first c.loop-writer.invariant.written in
    let lent : IsStep old new (Ok true) = subst (λ more. IsStep old new (Ok more)) c.if-branch.true c.in_ok-advance.ensures.step in
    record {
      quiet = c.in_ok-writer-2.ensures.quiet ∙ c.loop-writer.invariant.quiet;
      counted = lent_counted old new c.in_ok-advance.field-0 row _ c.if-branch.true c.in_ok-advance.ensures.step first c.loop-writer.invariant.counted;
      fault = lent.2;
      written = under_way_more _ _ _ c.loop-writer.writer.gathered.items _ row new.to_come _ under c.in_ok-writer-2.ensures.ok;
    }

pub returns-in_err-finish-clause-front : goal.returns-in_err-finish-clause-front
returns-in_err-finish-clause-front g c =
    on_err _ (front_at_end _ _ _ c.loop-writer.writer.gathered.items c.loop-writer.cursor.to_come _
    (lent_none c.loop-writer.cursor c.advance.new.self c.in_ok-advance.field-0 c.if-branch.false c.in_ok-advance.ensures.step) c.loop-writer.invariant.written c.in_err-finish.ensures.front)

pub returns-clause-ok : goal.returns-clause-ok
returns-clause-ok g c =
    under_way_ends _ _ _ c.loop-writer.writer.gathered.items c.loop-writer.cursor.to_come _
    (lent_none c.loop-writer.cursor c.advance.new.self c.in_ok-advance.field-0 c.if-branch.false c.in_ok-advance.ensures.step) c.loop-writer.invariant.written c.in_ok-finish.ensures.ok
