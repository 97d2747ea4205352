use Rattle.std.proofs.Common.{◌≡◌, drop, map}
use Rattle.labels.specs.Labels.{cost_of}
use Rattle.labels.proofs.by_class.cost_among.Given as goal

abbrev pub invariant-loop-label : goal.invariant-loop-label
invariant-loop-label l = cost_of (map (λ l. l.now) (drop l.label-index l.labels)) l.goal ≡ cost_of (map (λ l. l.now) l.labels) l.goal
