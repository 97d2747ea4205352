use Rattle.std.proofs.Common.{◌≡◌, ◌++◌, drop}
use Rattle.labels.specs.Offers.{goals_of}
use Rattle.labels.proofs.inputs.goals_of.Given as goal

abbrev pub invariant-loop-place : goal.invariant-loop-place
invariant-loop-place l = l.goals ++ goals_of l.log.log (drop l.place l.classes) (drop l.place l.orders) ≡ goals_of l.log.log l.classes l.orders
