use Rattle.std.proofs.Common.{◌≡◌, ◌-◌, ◌≤◌, ◌∙◌, take, drop, length, arith}
use Rattle.std.proofs.Math.Seq.{take-add}
use Rattle.std.proofs.lemmas.List.{length-drop, take_all}
use Rattle.answer_text.proofs.Sent.{appends_more}
use Rattle.answer_text.proofs.output.send.Goals as goal

pub loop-sent-preserved : goal.loop-sent-preserved
loop-sent-preserved g c =
    let before = c.loop-sent.invariant in
    let sent = c.loop-sent.sent in
    let bytes = c.args.bytes.now in
    let left : length (drop sent bytes) ≡ length bytes - sent = length-drop sent bytes in
    let whole : take (length bytes - sent) (drop sent bytes) ≡ drop sent bytes = take_all _ (drop sent bytes) (omega arith) in
    let some : c.in_ok-sent.field-0 ≤ length (drop sent bytes) = rw whole at c.in_ok-sent.ensures.some.1 in
    let more = rw whole at c.in_ok-sent.ensures.bytes in
    record {
      within = omega arith;
      quiet = c.in_ok-sent.ensures.counts ∙ before.quiet;
      taken = rw (take-add sent c.in_ok-sent.field-0 bytes) (appends_more _ _ _ _ _ before.taken more);
    }
