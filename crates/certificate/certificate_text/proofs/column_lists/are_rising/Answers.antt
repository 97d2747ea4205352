use Rattle.std.proofs.Common.{arith, refl}
use Rattle.std.proofs.lemmas.Bool.{false≢true}
use Rattle.certificate_text.proofs.ColumnLists.{rise_more, all_rise, one_falls}
use Rattle.certificate_text.proofs.column_lists.are_rising.Goals as goal

pub loop-place-init : goal.loop-place-init
loop-place-init c = λ k l. absurd (omega (arith, l))

pub loop-place-preserved : goal.loop-place-preserved
loop-place-preserved c = rise_more c.args.words.now c.loop-place.place _ _ c.is_below.result c.loop-place.auto.place c.loop-place-test.true c.loop-place.invariant c.is_below.ensures c.if-not-is_below.false

pub returns-then-not-is_below : goal.returns-then-not-is_below
returns-then-not-is_below c = λ ns s. (λ t. absurd (false≢true t), λ rise. absurd (one_falls c.args.words.now c.loop-place.place _ _ c.is_below.result c.loop-place.auto.place c.loop-place-test.true c.is_below.ensures c.if-not-is_below.true ns s rise))

pub returns : goal.returns
returns c = λ ns s. (λ t. all_rise c.args.words.now c.loop-place.place (omega (arith, c.loop-place-test.false)) c.loop-place.invariant ns s, λ rise. refl)
