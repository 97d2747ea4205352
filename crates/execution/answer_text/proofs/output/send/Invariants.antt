use Rattle.std.proofs.Common.{◌≡◌, ◌≤◌, ◌-◌, take, length}
use Rattle.std.specs.Io.KnownBytes.{Appends}
use Rattle.answer_text.proofs.output.send.Given as goal

-- the bytes up to `sent` were taken, and no call failed
abbrev pub invariant-loop-sent : goal.invariant-loop-sent
invariant-loop-sent g l = record {
  within : l.sent ≤ length l.bytes;
  quiet : g.W.AnswerOutput.failures l.out ≡ g.W.AnswerOutput.failures l.fn.out;
  taken : Appends (g.W.AnswerOutput.contents l.fn.out) (g.W.AnswerOutput.contents l.out) (take l.sent l.bytes);
}

abbrev pub decreases-loop-sent : goal.decreases-loop-sent
decreases-loop-sent g l = length l.bytes - l.sent
