use Rattle.std.proofs.Common.{◌≡◌, ◌<◌, ◌+◌, ℕ, List, Some, slice_get, get_or, take, length, sym, ap, ◌∙◌, subst, refl, arith}
use Rattle.std.specs.List.{AllZip}
use Rattle.std.proofs.lemmas.List.{take_more, take_all}
use Rattle.std.proofs.lemmas.Option.{slice_get-get_or, slice_get_read, slice_get_within}
use Rattle.physical.specs.declared.plan.Node.{Node}
use Rattle.physical.specs.declared.plan.Plan.{Plan}
use Rattle.winners.specs.declared.space.Offer.{Offer}
use Rattle.winners.specs.Found.{AreOlder}
use Rattle.winners.specs.Offered.{IsPlanFor}
use Rattle.winners.proofs.Lists.{same_read, zip_at, zip_push}
use Rattle.winners.proofs.Building.{built}
use Rattle.winners.proofs.build.«+plan_of».Goals as goal

pub offer_of-offer-requires : goal.offer_of-offer-requires
offer_of-offer-requires t c =
    let found = c.args.found.now in
    let own = c.index-found-number.result in
    let is = c.requires.plans c.args.number own (slice_get_read found (length found) c.args.number own refl c.requires.number c.index-found-number.is) in
    slice_get_within c.args.space.offers.now own.offer is.offer is.offer_is

pub node_of-requires : goal.node_of-requires
node_of-requires t c =
    let found = c.args.found.now in
    let own = c.index-found-number.result in
    let is = c.requires.plans c.args.number own (slice_get_read found (length found) c.args.number own refl c.requires.number c.index-found-number.is) in
    let same = same_read (slice_get c.args.space.offers.now own.offer) is.offer c.offer_of-offer.result.now is.offer_is c.offer_of-offer.ensures in
    subst (λ (o : Offer). o.node < length c.args.space.nodes.now) same (slice_get_within c.args.space.nodes.now is.offer.node is.node is.node_is)

pub plan_of-requires : goal.plan_of-requires
plan_of-requires t c =
    let found = c.args.found.now in
    let number = c.args.number in
    let own = c.index-found-number.result in
    let is = c.requires.plans number own (slice_get_read found (length found) number own refl c.requires.number c.index-found-number.is) in
    let inputs = c.as_slice-input-items.result.now in
    let i = c.loop-input.input-index in
    let older : AreOlder found number inputs is.below = subst (λ v. AreOlder found number v is.below) (sym c.as_slice-input-items.ensures) is.older in
    let tied = zip_at _ inputs is.below i (get_or inputs i 0) older (slice_get-get_or inputs i 0 c.loop-input-test.true) in
    let lt : get_or inputs i 0 < number = tied.1.0 in
    let within = slice_get_within found (get_or inputs i 0) tied.0 tied.1.1 in
    (omega arith, (c.requires.plans, within))

pub loop-input-preserved : goal.loop-input-preserved
loop-input-preserved t c = λ E goals offered.
    let inputs = c.as_slice-input-items.result.now in
    let i = c.loop-input.input-index in
    let plans = c.loop-input.inputs in
    let R : ℕ → Plan → Type 0 = IsPlanFor c.args.space E goals c.args.found.now in
    let P : List Plan → Type 0 = λ v. AllZip R (take (i + 1) inputs) v in
    let pushed = zip_push R (take i inputs) plans (get_or inputs i 0) c.in_ok-plan_of.field-0 (c.loop-input.invariant E goals offered) (c.in_ok-plan_of.ensures E goals offered) in
    subst P (sym c.in_ok-push.ensures.ok) (rw (take_more inputs i 0 c.loop-input-test.true) pushed)

pub returns : goal.returns
returns t c = λ E goals offered.
    let space = c.args.space in
    let found = c.args.found.now in
    let number = c.args.number in
    let own = c.index-found-number.result in
    let at : slice_get found number ≡ Some own = slice_get_read found (length found) number own refl c.requires.number c.index-found-number.is in
    let is = c.requires.plans number own at in
    let inputs = c.as_slice-input-items.result.now in
    let R : ℕ → Plan → Type 0 = IsPlanFor space E goals found in
    let plans = c.loop-input.inputs in
    let all : AllZip R own.inputs plans = subst (λ v. AllZip R v plans) (take_all c.loop-input.input-index inputs c.loop-input-test.false ∙ c.as_slice-input-items.ensures) (c.loop-input.invariant E goals offered) in
    let same = same_read (slice_get space.offers.now own.offer) is.offer c.offer_of-offer.result.now is.offer_is c.offer_of-offer.ensures in
    let node_at : slice_get space.nodes.now is.offer.node ≡ Some c.in_ok-node.node =
    ap (λ (o : Offer). slice_get space.nodes.now o.node) same ∙ c.node_of.ensures ∙ ap (λ (n : Node). Some n) (sym c.in_ok-node.ensures) in
    built space E goals offered found number own c.in_ok-node.node plans is at node_at all
