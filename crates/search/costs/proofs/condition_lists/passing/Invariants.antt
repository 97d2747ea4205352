use Rattle.std.proofs.Common.{◌≡◌, ◌≤◌, map, take}
use Rattle.costs.specs.Cardinalities.{all_filtered}
use Rattle.costs.specs.Selectivity.{selectivity}
use Rattle.costs.proofs.condition_lists.passing.Given as goal

abbrev pub invariant-loop-condition : goal.invariant-loop-condition
invariant-loop-condition l = (l.filtered ≡ all_filtered l.rows (map (selectivity l.statistics l.instances) (map (λ c. c.now) (take l.condition-index l.conditions)))) × (l.filtered.share ≤ 1000000)
