use Rattle.std.proofs.Common.{take}
use Rattle.winners.specs.Found.{AreEstimated}
use Rattle.winners.proofs.found.estimated.Given as goal

abbrev pub invariant-loop-place : goal.invariant-loop-place
invariant-loop-place l = AreEstimated l.cheapest (take l.place l.goals) l.inputs
