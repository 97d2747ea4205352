use Rattle.std.proofs.Common.{◌≡◌, ◌+◌, None, length}
use Rattle.answer_text.specs.AnswerText.{answer_text, IsUnderWay}
use Rattle.pipeline.proofs.execution.write_lent.Given as goal

-- the rows that were handed over are written or gathered, and the others are to come
abbrev pub invariant-loop-writer : goal.invariant-loop-writer
invariant-loop-writer g l = record {
  quiet : g.W.AnswerOutput.failures l.out ≡ g.W.AnswerOutput.failures l.fn.out;
  counted : l.cursor.handed + length l.cursor.to_come ≡ length l.fn.cursor.to_come;
  fault : l.cursor.fault ≡ None;
  written : IsUnderWay (g.W.AnswerOutput.contents l.fn.out) (g.W.AnswerOutput.contents l.out) l.writer.gathered.items l.cursor.to_come (answer_text l.query.names l.fn.cursor.to_come);
}

abbrev pub decreases-loop-writer : goal.decreases-loop-writer
decreases-loop-writer g l = length l.cursor.to_come
