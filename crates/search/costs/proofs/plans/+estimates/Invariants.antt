use Rattle.std.proofs.Common.{◌≡◌, map, take}
use Rattle.costs.specs.Cardinalities.{rows_at}
use Rattle.costs.specs.Costs.{plan_estimate, inputs_of, with_cut_costs}
use Rattle.costs.proofs.plans.+estimates.Given as goal

abbrev pub invariant-inputs_of-loop-place : goal.invariant-inputs_of-loop-place
invariant-inputs_of-loop-place l = l.inputs ≡ with_cut_costs (inputs_of (map (plan_estimate l.statistics l.log.instances (rows_at l.cardinalities) l.log.log) (take l.place l.plans)))
