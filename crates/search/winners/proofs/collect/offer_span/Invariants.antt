use Rattle.algebra.specs.Columns.{columns_at}
use Rattle.winners.specs.Collected.{AreSoundFor, HaveOffers, IsBegun}
use Rattle.winners.specs.Numbers.{IsIndexed, Keeps}
use Rattle.winners.proofs.collect.offer_span.Given as goal

abbrev pub invariant-loop-node : goal.invariant-loop-node
invariant-loop-node l = record {
  indexed : IsIndexed l.wanted.derived.log.now.log (columns_at l.wanted.derived.columns.now) l.goals;
  kept : Keeps l.initial.goals.list.items l.goals.list.items;
  sound : AreSoundFor l.wanted l.goals.list.items l.offers.items;
  more : IsBegun l.initial.offers.items l.offers.items;
  offered : HaveOffers l.wanted l.fn.span.start l.node l.offers.items;
}
