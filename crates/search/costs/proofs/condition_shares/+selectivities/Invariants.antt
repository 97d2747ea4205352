use Rattle.std.proofs.Common.{◌≡◌, ◌≤◌, fold, map, take}
use Rattle.costs.specs.Selectivity.{selectivity, both, either}
use Rattle.costs.proofs.condition_shares.+selectivities.Given as goal

abbrev pub invariant-all_of-loop-condition : goal.invariant-all_of-loop-condition
invariant-all_of-loop-condition l = (l.all ≡ fold both l.fn.share (map (selectivity l.statistics l.instances) (take l.condition-index l.conditions))) × (l.all ≤ 1000000)

abbrev pub invariant-any_of-loop-condition : goal.invariant-any_of-loop-condition
invariant-any_of-loop-condition l = (l.any ≡ fold either l.fn.share (map (selectivity l.statistics l.instances) (take l.condition-index l.conditions))) × (l.any ≤ 1000000)
