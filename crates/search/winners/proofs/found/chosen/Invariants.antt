use Rattle.std.proofs.Common.{take}
use Rattle.winners.specs.Found.{AreChosen}
use Rattle.winners.proofs.found.chosen.Given as goal

abbrev pub invariant-loop-goal : goal.invariant-loop-goal
invariant-loop-goal l = AreChosen l.cheapest (take l.goal-index l.goals) l.plans
