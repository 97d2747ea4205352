use Rattle.std.proofs.Common.{refl}
use Rattle.std.proofs.lemmas.Bool.{false≢true}
use Rattle.algebra.proofs.RisingLists.{columns_rise, columns_fall}
use Rattle.algebra.proofs.rising.columns_rise.Goals as goal

pub returns-then-added-place : goal.returns-then-added-place
returns-then-added-place c = (λ t. absurd (false≢true t), λ rise. absurd (columns_fall c.args.added.now c.loop-place.place _ c.loop-place.auto.place c.loop-place-test.true c.if-added-place.true rise))

pub returns : goal.returns
returns c = (λ t. columns_rise c.args.added.now c.loop-place.place c.loop-place-test.false c.loop-place.invariant, λ rise. refl)
