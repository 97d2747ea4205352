use Rattle.std.proofs.Common.{◌≡◌, ◌≤◌, ◌<◌, subst, length, rules, arith}
use Rattle.algebra.specs.Columns.{columns_at}
use Rattle.winners.specs.Collected.{AreMet}
use Rattle.winners.proofs.Meeting.{keeps_length}
use Rattle.winners.proofs.collect.met_from.Goals as goal

pub loop-next-preserved : goal.loop-next-preserved
loop-next-preserved c =
    let old = c.loop-next.goals.list.items in
    let new = c.offer_goal.new.goals.list.items in
    let before = c.loop-next.invariant in
    let le : length old ≤ length new = keeps_length old new c.in_ok-offer_goal.ensures.kept in
    let lt : c.loop-next.next < length old = search rules in
    record {
      met = c.in_ok-offer_goal.ensures.met;
      root_is = c.in_ok-offer_goal.ensures.kept c.in_ok-root.root c.args.root.now before.root_is;
      within = omega (arith, le, lt);
    }

pub returns : goal.returns
returns c =
    let log = c.args.derived.log.now in
    let goals = c.loop-next.goals in
    let before = c.loop-next.invariant in
    let high : length goals.list.items ≤ c.loop-next.next = search rules in
    let same : c.loop-next.next ≡ length goals.list.items = omega (arith, high, before.within) in
    record {
      all = subst (λ n. AreMet log.instances log.log (columns_at c.args.derived.columns.now) goals c.loop-next.nodes c.loop-next.offers.items n) same before.met;
      root_is = before.root_is;
    }
