use Rattle.std.proofs.Common.{◌≡◌, map, take}
use Rattle.costs.specs.Cardinalities.{rows_at}
use Rattle.labels.specs.declared.goal.Goal.{Goal}
use Rattle.winners.proofs.least.goal_rows.Given as goal

abbrev pub invariant-loop-goal : goal.invariant-loop-goal
invariant-loop-goal l = l.rows.items ≡ map (λ (g : Goal). rows_at l.cardinalities g.class) (take l.goal-index l.goals)
