use Rattle.std.proofs.Common.{◌≡◌, ◌≤◌, length}
use Rattle.winners.specs.Found.{AreFound, AreSettled}
use Rattle.winners.proofs.found.try_all.Given as goal

abbrev pub invariant-loop-left : goal.invariant-loop-left
invariant-loop-left l = record {
  found : AreFound l.space l.plans.items l.cheapest;
  as_many : length l.cheapest ≡ length l.initial.cheapest;
  within : l.left ≤ length l.space.offers.now;
  more : length l.initial.plans.items ≤ length l.plans.items;
  settled : length l.plans.items ≡ length l.initial.plans.items → AreSettled l.space l.cheapest l.left;
}

abbrev pub decreases-loop-left : goal.decreases-loop-left
decreases-loop-left l = l.left
