use Rattle.std.proofs.Common.{}
use Rattle.winners.specs.Offered.{HaveLabels}
use Rattle.winners.proofs.least.labels_of.Given as goal

abbrev pub invariant-loop-number : goal.invariant-loop-number
invariant-loop-number l = HaveLabels l.goals l.cheapest l.number l.labels
