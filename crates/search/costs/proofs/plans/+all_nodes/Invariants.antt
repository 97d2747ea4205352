use Rattle.std.proofs.Common.{◌≡◌, ◌++◌, map, flat_map, take}
use Rattle.costs.specs.Cardinalities.{rows_at}
use Rattle.costs.specs.Costs.{plan_estimate, estimates_by, inputs_of, with_cut_costs}
use Rattle.costs.proofs.plans.+all_nodes.Given as goal

-- the nodes of the inputs so far are estimated, and so are the inputs
abbrev pub invariant-push_inputs-loop-place : goal.invariant-push_inputs-loop-place
invariant-push_inputs-loop-place l =
    (l.estimates.items ≡ l.fn.estimates.items ++ flat_map (estimates_by l.statistics l.log.instances (rows_at l.cardinalities) l.log.log) (take l.place l.plans))
    × (l.inputs ≡ with_cut_costs (inputs_of (map (plan_estimate l.statistics l.log.instances (rows_at l.cardinalities) l.log.log) (take l.place l.plans))))
