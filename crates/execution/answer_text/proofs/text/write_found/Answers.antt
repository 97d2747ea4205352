use Rattle.std.proofs.Common.{subst, ◌∙◌, ◌+◌, List, [], drop, get_or, arith}
use Rattle.std.proofs.lemmas.List.{drop_more}
use Rattle.std.proofs.lemmas.Result.{on_ok_weaker, on_err_weaker}
use Rattle.schema.specs.Databases.{Row}
use Rattle.answer_text.specs.AnswerText.{answer_text, IsUnderWay}
use Rattle.answer_text.proofs.Sent.{drop_past, front_at_end, front_at_row, on_err, under_way_ends, under_way_more}
use Rattle.answer_text.proofs.text.write_found.Goals as goal

pub loop-row-preserved : goal.loop-row-preserved
loop-row-preserved g c =
    let rows = g.R.RowSource.rows c.args.found.now in
    let n = c.loop-row.row in
    let under = subst (λ (rs : List Row). IsUnderWay (g.W.AnswerOutput.contents c.args.out.now) (g.W.AnswerOutput.contents c.loop-row.out) c.loop-row.writer.gathered.items rs (answer_text c.args.query.now.names rows)) (drop_more rows n [] (omega arith)) c.loop-row.invariant.written in
    record {
      quiet = c.in_ok-writer-2.ensures.quiet ∙ c.loop-row.invariant.quiet;
      written = under_way_more _ _ _ c.loop-row.writer.gathered.items _ (get_or rows n []) (drop (n + 1) rows) _ under c.in_ok-writer-2.ensures.ok;
    }

pub returns-in_err-writer-2-clause-front : goal.returns-in_err-writer-2-clause-front
returns-in_err-writer-2-clause-front g c =
    let rows = g.R.RowSource.rows c.args.found.now in
    let n = c.loop-row.row in
    let under = subst (λ (rs : List Row). IsUnderWay (g.W.AnswerOutput.contents c.args.out.now) (g.W.AnswerOutput.contents c.loop-row.out) c.loop-row.writer.gathered.items rs (answer_text c.args.query.now.names rows)) (drop_more rows n [] (omega arith)) c.loop-row.invariant.written in
    on_err _ (front_at_row _ _ _ c.loop-row.writer.gathered.items (get_or rows n []) (drop (n + 1) rows) _ under c.in_err-writer-2.ensures.front)

pub returns-clause-ok : goal.returns-clause-ok
returns-clause-ok g c =
    let rows = g.R.RowSource.rows c.args.found.now in
    on_ok_weaker c.finish.result (λ added. under_way_ends _ _ _ c.loop-row.writer.gathered.items (drop c.loop-row.row rows) _ (drop_past c.loop-row.row rows (omega arith)) c.loop-row.invariant.written added) c.finish.ensures.ok

pub returns-clause-front : goal.returns-clause-front
returns-clause-front g c =
    let rows = g.R.RowSource.rows c.args.found.now in
    on_err_weaker c.finish.result (λ front. front_at_end _ _ _ c.loop-row.writer.gathered.items (drop c.loop-row.row rows) _ (drop_past c.loop-row.row rows (omega arith)) c.loop-row.invariant.written front) c.finish.ensures.front
