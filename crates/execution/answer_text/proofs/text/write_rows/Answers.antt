use Rattle.std.proofs.Common.{subst, ◌∙◌, ◌+◌, List, ◌++◌, drop, arith}
use Rattle.std.proofs.lemmas.Result.{on_ok_weaker, on_err_weaker}
use Rattle.values.proofs.Lists.{drop_next}
use Rattle.schema.specs.Databases.{Row}
use Rattle.answer_text.specs.AnswerText.{answer_text, record_text, HasFront, IsGathered, IsUnderWay}
use Rattle.answer_text.proofs.Sent.{drop_past, front_at_end, front_at_row, on_err, under_way_ends, under_way_more}
use Rattle.answer_text.proofs.text.write_rows.Goals as goal

pub loop-row-preserved : goal.loop-row-preserved
loop-row-preserved g c =
    let rows = c.args.rows.now in
    let n = c.loop-row.row-index in
    let r : Row = c.row-item.result in
    let under = subst (λ (rs : List Row). IsUnderWay (g.W.AnswerOutput.contents c.args.out.now) (g.W.AnswerOutput.contents c.loop-row.out) c.loop-row.writer.gathered.items rs (answer_text c.args.query.now.names rows)) (drop_next rows n r (omega arith) c.row-item.is) c.loop-row.invariant.written in
    record {
      quiet = c.in_ok-writer-2.ensures.quiet ∙ c.loop-row.invariant.quiet;
      written = under_way_more _ _ _ c.loop-row.writer.gathered.items _ r (drop (n + 1) rows) _ under (subst (λ (row : Row). IsGathered (g.W.AnswerOutput.contents c.loop-row.out) (g.W.AnswerOutput.contents c.push_values.new.out) (c.loop-row.writer.gathered.items ++ record_text row) c.in_ok-writer-2.writer.gathered.items) c.as_slice.ensures c.in_ok-writer-2.ensures.ok);
    }

pub returns-in_err-writer-2-clause-front : goal.returns-in_err-writer-2-clause-front
returns-in_err-writer-2-clause-front g c =
    let rows = c.args.rows.now in
    let n = c.loop-row.row-index in
    let r : Row = c.row-item.result in
    let under = subst (λ (rs : List Row). IsUnderWay (g.W.AnswerOutput.contents c.args.out.now) (g.W.AnswerOutput.contents c.loop-row.out) c.loop-row.writer.gathered.items rs (answer_text c.args.query.now.names rows)) (drop_next rows n r (omega arith) c.row-item.is) c.loop-row.invariant.written in
    on_err _ (front_at_row _ _ _ c.loop-row.writer.gathered.items r (drop (n + 1) rows) _ under (subst (λ (row : Row). HasFront (g.W.AnswerOutput.contents c.loop-row.out) (g.W.AnswerOutput.contents c.push_values.new.out) (c.loop-row.writer.gathered.items ++ record_text row)) c.as_slice.ensures c.in_err-writer-2.ensures.front))

pub returns-clause-ok : goal.returns-clause-ok
returns-clause-ok g c =
    let rows = c.args.rows.now in
    on_ok_weaker c.finish.result (λ added. under_way_ends _ _ _ c.loop-row.writer.gathered.items (drop c.loop-row.row-index rows) _ (drop_past c.loop-row.row-index rows (omega arith)) c.loop-row.invariant.written added) c.finish.ensures.ok

pub returns-clause-front : goal.returns-clause-front
returns-clause-front g c =
    let rows = c.args.rows.now in
    on_err_weaker c.finish.result (λ front. front_at_end _ _ _ c.loop-row.writer.gathered.items (drop c.loop-row.row-index rows) _ (drop_past c.loop-row.row-index rows (omega arith)) c.loop-row.invariant.written front) c.finish.ensures.front
