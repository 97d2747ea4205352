use Rattle.std.proofs.Common.{◌≡◌, ◌-◌, ◌^◌, length}
use Rattle.winners.specs.Found.{AreFound}
use Rattle.winners.proofs.found.cheapest_plans.Given as goal

abbrev pub invariant-loop-plans : goal.invariant-loop-plans
invariant-loop-plans l = record {
  found : AreFound l.space l.plans.items l.cheapest.items;
  as_many : length l.cheapest.items ≡ l.goals;
}

abbrev pub decreases-loop-plans : goal.decreases-loop-plans
decreases-loop-plans l = 2 ^ 64 - length l.plans.items
