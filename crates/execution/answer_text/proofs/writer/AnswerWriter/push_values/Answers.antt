use Rattle.std.proofs.Common.{subst, List, ℕ}
use Rattle.answer_text.specs.AnswerText.{HasFront}
use Rattle.answer_text.proofs.Sent.{on_err}
use Rattle.answer_text.proofs.writer.AnswerWriter.push_values.Goals as goal

pub returns-in_err-send_full-clause-front : goal.returns-in_err-send_full-clause-front
returns-in_err-send_full-clause-front g c =
    on_err _ (subst (λ (text : List ℕ). HasFront (g.W.AnswerOutput.contents c.args.out.now) (g.W.AnswerOutput.contents c.send_full.new.out) text) c.in_ok-push_record.ensures c.in_err-send_full.ensures.front)
