use Rattle.std.proofs.Common.{◌≡◌, drop}
use Rattle.costs.specs.Cardinalities.{rows_at}
use Rattle.labels.specs.Labels.{estimates_of}
use Rattle.labels.proofs.Bounding.{before}
use Rattle.labels.proofs.bounds.estimates_of.Given as goal

abbrev pub invariant-loop-goal : goal.invariant-loop-goal
invariant-loop-goal l = before (rows_at l.by.cardinalities) l.by.labels.now l.estimates.items (drop l.goal-index l.goals) ≡ estimates_of (rows_at l.by.cardinalities) l.by.labels.now l.goals
