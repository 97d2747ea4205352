use Rattle.std.proofs.Common.{ℕ, List, take, subst, arith}
use Rattle.std.proofs.lemmas.List.{take_all}
use Rattle.values.proofs.Lists.{take_next}
use Rattle.store.proofs.Repeats.{IsFound, found_none, found_one, found_all}
use Rattle.store.proofs.unique.earliest_repeat.Goals as goal

pub loop-places-preserved-in_default : goal.loop-places-preserved-in_default
loop-places-preserved-in_default c =
    let next = take_next c.args.unique.now c.loop-places.places-index c.places-item.result (omega arith) c.places-item.is in
    let h = rw c.in_default.is at c.in_ok-repeat.ensures in
    rw next (found_none c.args.rows.now (take c.loop-places.places-index c.args.unique.now) c.places-item.result c.loop-places.limit c.loop-places.found c.loop-places.invariant h)

pub loop-places-preserved : goal.loop-places-preserved
loop-places-preserved c =
    let next = take_next c.args.unique.now c.loop-places.places-index c.places-item.result (omega arith) c.places-item.is in
    let h = rw c.in-Some.is at c.in_ok-repeat.ensures in
    rw next (found_one c.args.rows.now (take c.loop-places.places-index c.args.unique.now) c.places-item.result c.loop-places.limit c.loop-places.found c.in-Some.repeat c.loop-places.invariant h.0 h.1 h.2)

pub returns : goal.returns
returns c =
    let all = take_all c.loop-places.places-index c.args.unique.now (omega arith) in
    found_all c.args.rows.now c.args.unique.now c.loop-places.limit c.loop-places.found (subst (λ (us : List (List ℕ)). IsFound c.args.rows.now us c.loop-places.limit c.loop-places.found) all c.loop-places.invariant)
