use Rattle.std.proofs.Common.{ap, ◌∙◌}
use Rattle.certificate_text.specs.Numerals.{numeral}
use Rattle.certificate_text.specs.Parts.{IsShort}
use Rattle.certificate_text.proofs.PartLists.{place_more, place_past, place_none}
use Rattle.certificate_text.proofs.numbers.each_number.Goals as goal
use Rattle.certificate_text.proofs.numbers.each_number.Goals.{in-Some+in_ok-push-in-Some, in-None}

pub returns-in_err-read : goal.returns-in_err-read
returns-in_err-read c =
    place_none numeral IsShort 0 c.args.words.now c.loop-word.word-index _ (λ v. v.items) c.in_err-read.field-0.0 c.from_residual-in_err-read.result c.loop-word-test.true c.in_err-read.ensures c.from_residual-in_err-read.ensures.1

pub loop-word-preserved : goal.loop-word-preserved
loop-word-preserved c = elim c.match-branch-3.branch [
  | in-Some+in_ok-push-in-Some w ↦ place_more numeral IsShort c.args.words.now c.loop-word.word-index _ c.loop-word.in_range c.match-branch-3.in_range c.loop-word.numbers.items c.match-branch-3.numbers.items c.in_ok-read.field-0 w.in-Some.read
      c.loop-word-test.true c.loop-word.invariant c.in_ok-read.ensures w.in-Some.is w.in_range-is (ap (λ v. v.items) w.numbers-is ∙ w.in_ok-push-in-Some.ensures.items)
  | in-None w ↦ place_past numeral IsShort c.args.words.now c.loop-word.word-index _ c.loop-word.in_range c.match-branch-3.in_range c.loop-word.numbers.items c.match-branch-3.numbers.items c.in_ok-read.field-0
      c.loop-word-test.true c.loop-word.invariant c.in_ok-read.ensures w.in-None.is w.in_range-is
]
