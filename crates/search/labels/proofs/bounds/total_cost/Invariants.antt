use Rattle.std.proofs.Common.{◌≡◌, take}
use Rattle.std.specs.List.{sum_by}
use Rattle.costs.specs.declared.nodes.Estimate.{Estimate}
use Rattle.costs.specs.Numbers.{cut}
use Rattle.labels.proofs.bounds.total_cost.Given as goal

abbrev pub invariant-loop-estimate : goal.invariant-loop-estimate
invariant-loop-estimate l = l.total ≡ cut (sum_by (λ (e : Estimate). e.cost) (take l.estimate-index l.estimates))
