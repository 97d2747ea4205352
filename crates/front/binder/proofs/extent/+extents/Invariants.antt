use Rattle.std.proofs.Common.{◌≡◌, map, take}
use Rattle.binder.specs.Extents as spec
use Rattle.binder.proofs.extent.+extents.Given as goal

abbrev pub invariant-of_conditions-loop-condition : goal.invariant-of_conditions-loop-condition
invariant-of_conditions-loop-condition l = l.all ≡ spec.all_of (map (spec.of_condition l.schema) (take l.condition-index l.conditions))

abbrev pub invariant-of_joins-loop-join : goal.invariant-of_joins-loop-join
invariant-of_joins-loop-join l = l.all ≡ spec.all_of (map (spec.of_join l.schema) (take l.join-index l.joins))

abbrev pub invariant-of_chains-loop-chain : goal.invariant-of_chains-loop-chain
invariant-of_chains-loop-chain l = l.all ≡ spec.all_of (map (spec.of_chain l.schema) (take l.chain-index l.chains))
