use Rattle.std.proofs.Common.{◌≡◌, ◌<◌, ◌-◌, length, get_or, ◌∙◌, arith, Some, slice_get}
use Rattle.std.proofs.lemmas.Option.{slice_get-get_or}
use Rattle.winners.proofs.Finding.{settled_more}
use Rattle.winners.proofs.found.try_all.Goals as goal

pub loop-left-preserved : goal.loop-left-preserved
loop-left-preserved c =
    let offers = c.args.space.offers.now in
    let left = c.loop-left.left in
    let o = get_or offers (left - 1) c.index-space-left.result in
    let before = c.loop-left.invariant in
    let within : left - 1 < length offers = omega (arith, before.within, c.loop-left-test.true) in
    let o_is : slice_get offers (left - 1) ≡ Some o = slice_get-get_or offers (left - 1) c.index-space-left.result within in
    let tried = c.in_ok-try_offer.ensures.tried in
    let more = settled_more c.args.space c.args.plans.now.items c.loop-left.plans.items c.try_offer.new.plans.items c.loop-left.cheapest c.try_offer.new.cheapest left o c.loop-left-test.true o_is before.more tried before.settled in
    record {
      found = c.in_ok-try_offer.ensures.found;
      as_many = tried.as_many ∙ before.as_many;
      within = omega (arith, before.within);
      more = more.0;
      settled = more.1;
    }
