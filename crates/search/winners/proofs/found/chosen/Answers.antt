use Rattle.std.proofs.Common.{◌≡◌, get_or, Some, None}
use Rattle.std.proofs.lemmas.Option.{slice_get-get_or}
use Rattle.winners.specs.Found.{cheapest_of}
use Rattle.winners.proofs.Finding.{chosen_more, some_lacks}
use Rattle.winners.proofs.found.chosen.Goals as goal

pub returns-in-None-clause-none : goal.returns-in-None-clause-none
returns-in-None-clause-none c =
    let goals = c.args.goals.now in
    let i = c.loop-goal.goal-index in
    let none : cheapest_of c.args.cheapest.now (get_or goals i 0) ≡ None = cc in
    some_lacks c.args.cheapest.now goals i (get_or goals i 0) (slice_get-get_or goals i 0 c.loop-goal-test.true) none

pub loop-goal-preserved : goal.loop-goal-preserved
loop-goal-preserved c =
    let goals = c.args.goals.now in
    let i = c.loop-goal.goal-index in
    let some : cheapest_of c.args.cheapest.now (get_or goals i 0) ≡ Some c.in-Some.found = cc in
    chosen_more c.args.cheapest.now goals i c.in-Some.found c.loop-goal.plans c.push.new.self c.loop-goal-test.true some c.loop-goal.invariant c.in_ok-push-in-Some.ensures.ok
