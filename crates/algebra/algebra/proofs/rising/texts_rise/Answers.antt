use Rattle.std.proofs.Common.{refl, rules}
use Rattle.std.proofs.lemmas.Bool.{false≢true}
use Rattle.std.specs.Prelude.{string_bytes}
use Rattle.algebra.proofs.RisingLists.{IsTextBefore, rise_more, text_behind, falls}
use Rattle.algebra.proofs.rising.texts_rise.Goals as goal

pub returns-then-not-is_below : goal.returns-then-not-is_below
returns-then-not-is_below c =
    (λ t. absurd (false≢true t), λ rise. absurd (falls c.args.conditions.now c.loop-place.place (string_bytes c.loop-place.last) (string_bytes c.in_ok-text.text) c.loop-place.auto.place c.loop-place-test.true c.loop-place.invariant.1 c.index-conditions-place.result c.index-conditions-place.is c.in_ok-text.ensures c.is_below.result (search rules) (search rules) c.index-conditions-place.result rise))

pub loop-place-preserved : goal.loop-place-preserved
loop-place-preserved c = (
  rise_more c.args.conditions.now c.loop-place.place (string_bytes c.loop-place.last) (string_bytes c.in_ok-text.text) c.loop-place.auto.place c.loop-place-test.true c.loop-place.invariant.1 c.index-conditions-place.result c.index-conditions-place.is c.in_ok-text.ensures c.is_below.result (search rules) (search rules) c.loop-place.invariant.0,
  text_behind c.args.conditions.now c.loop-place.place (string_bytes c.loop-place.last) (string_bytes c.in_ok-text.text) c.loop-place.auto.place c.loop-place-test.true c.loop-place.invariant.1 c.index-conditions-place.result c.index-conditions-place.is c.in_ok-text.ensures c.is_below.result (search rules),
)
