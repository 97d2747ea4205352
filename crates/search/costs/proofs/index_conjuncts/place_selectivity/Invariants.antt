use Rattle.std.proofs.Common.{◌≡◌, ◌≤◌, filter, take}
use Rattle.costs.specs.Costs.{comparison_at, is_run}
use Rattle.costs.specs.Selectivity.{list_selectivity}
use Rattle.costs.proofs.index_conjuncts.place_selectivity.Given as goal

abbrev pub invariant-loop-condition : goal.invariant-loop-condition
invariant-loop-condition l = (l.share ≡ list_selectivity l.statistics l.instances (filter (λ d. is_run (comparison_at l.instance l.place d)) (take l.condition-index l.conditions))) × (l.share ≤ 1000000)
