use Rattle.std.proofs.Common.{◌∙◌}
use Rattle.certificate_text.proofs.PartLists.{place_more, place_past, place_none}
use Rattle.certificate_text.specs.Readable.{IsShortKey}
use Rattle.certificate_read.specs.NodeReading.{key_text}
use Rattle.certificate_read.proofs.KeyTexts.{any}
use Rattle.certificate_read.proofs.sort_keys.each_key.Goals as goal
use Rattle.certificate_read.proofs.sort_keys.each_key.Goals.{in-Some+in_ok-push-in-Some, in-None}

pub returns-in_err-key : goal.returns-in_err-key
returns-in_err-key c =
    place_none key_text IsShortKey any c.args.parts.now c.loop-part.part-index _ (λ k. k) c.in_err-key.field-0.0 c.from_residual.result c.loop-part-test.true c.in_err-key.ensures c.from_residual.ensures.1

pub loop-part-preserved : goal.loop-part-preserved
loop-part-preserved c = elim c.match-branch-2.branch [
  | in-Some+in_ok-push-in-Some w ↦ place_more key_text IsShortKey c.args.parts.now c.loop-part.part-index _ c.loop-part.in_range c.match-branch-2.in_range c.loop-part.keys c.match-branch-2.keys c.in_ok-key.field-0 w.in-Some.key
      c.loop-part-test.true c.loop-part.invariant c.in_ok-key.ensures w.in-Some.is w.in_range-is (w.keys-is ∙ w.in_ok-push-in-Some.ensures.ok)
  | in-None w ↦ place_past key_text IsShortKey c.args.parts.now c.loop-part.part-index _ c.loop-part.in_range c.match-branch-2.in_range c.loop-part.keys c.match-branch-2.keys c.in_ok-key.field-0
      c.loop-part-test.true c.loop-part.invariant c.in_ok-key.ensures w.in-None.is w.in_range-is
]
