use Rattle.std.proofs.Common.{◌≡◌, sym, ap, ◌∙◌, Some, slice_get, get_or, ◌++◌, ◌∷◌, []}
use Rattle.std.proofs.lemmas.Option.{slice_get-get_or}
use Rattle.labels.specs.declared.goal.Goal.{Goal}
use Rattle.winners.specs.Found.{cheapest_of}
use Rattle.winners.proofs.Labelling.{labels_more}
use Rattle.winners.proofs.least.labels_of.Goals as goal

pub loop-number-preserved : goal.loop-number-preserved
loop-number-preserved c =
    let goals = c.args.goals.now in
    let i = c.loop-number.number in
    let g = get_or goals i c.index-goals-number.result in
    let found = c.in-Some.found in
    let at : slice_get goals i ≡ Some g = slice_get-get_or goals i c.index-goals-number.result c.loop-number-test.true in
    let has : cheapest_of c.args.cheapest.now i ≡ Some found = sym c.cheapest_of.ensures ∙ c.in-Some.is in
    let copy : c.in_ok-goal-in-Some.goal ≡ g = c.in_ok-goal-in-Some.ensures ∙ c.index-goals-number.is in
    labels_more goals c.args.cheapest.now i c.loop-number.labels c.push.new.self g found c.loop-number.invariant at has
    (c.in_ok-push-in-Some.ensures.ok ∙ ap (λ (h : Goal). c.loop-number.labels ++ record { goal = h; cost = found.estimate.cost } ∷ []) copy)
