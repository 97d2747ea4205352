use Rattle.std.proofs.Common.{◌≡◌, drop}
use Rattle.answer_text.specs.AnswerText.{answer_text, IsUnderWay}
use Rattle.answer_text.proofs.text.write_rows.Given as goal

abbrev pub invariant-loop-row : goal.invariant-loop-row
invariant-loop-row g l = record {
  quiet : g.W.AnswerOutput.failures l.out ≡ g.W.AnswerOutput.failures l.fn.out;
  written : IsUnderWay (g.W.AnswerOutput.contents l.fn.out) (g.W.AnswerOutput.contents l.out) l.writer.gathered.items (drop l.row-index l.rows) (answer_text l.query.names l.rows);
}
