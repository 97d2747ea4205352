use Rattle.std.proofs.Common.{◌≡◌, get_or, Some, None, []}
use Rattle.std.proofs.lemmas.Option.{slice_get-get_or}
use Rattle.winners.specs.Found.{cheapest_of}
use Rattle.winners.proofs.Finding.{estimates_more, none_estimated, some_lacks}
use Rattle.winners.proofs.found.estimated.Goals as goal

pub loop-place-init : goal.loop-place-init
loop-place-init c = ([], tt, none_estimated)

pub returns-in-None-clause-none : goal.returns-in-None-clause-none
returns-in-None-clause-none c =
    let goals = c.args.goals.now in
    let i = c.loop-place.place in
    let none : cheapest_of c.args.cheapest.now (get_or goals i 0) ≡ None = cc in
    some_lacks c.args.cheapest.now goals i (get_or goals i 0) (slice_get-get_or goals i 0 c.loop-place-test.true) none

pub loop-place-preserved : goal.loop-place-preserved
loop-place-preserved c =
    let goals = c.args.goals.now in
    let i = c.loop-place.place in
    let some : cheapest_of c.args.cheapest.now (get_or goals i 0) ≡ Some c.in-Some.found = cc in
    estimates_more c.args.cheapest.now goals i c.in-Some.found c.loop-place.inputs c.with_input-inputs.result c.loop-place-test.true some c.loop-place.invariant c.with_input-inputs.ensures
