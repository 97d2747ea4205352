use Rattle.std.proofs.Common.{arith}
use Rattle.costs.specs.Cardinalities.{rows_at}
use Rattle.costs.specs.Costs.{plan_estimate}
use Rattle.costs.proofs.PlanEstimates.{estimate_at, no-inputs, input-more}
use Rattle.costs.proofs.plans.+estimates.Goals as goal

pub plan_estimate-returns : goal.plan_estimate-returns
plan_estimate-returns t c =
    let L = c.args.log.now in
    estimate_at c.args.statistics.now L.instances (rows_at c.args.cardinalities.now) L.log c.args.plan.now c.as_slice.result.now c.node_estimate.result c.inputs_of-inputs.result c.as_slice.ensures c.inputs_of-inputs.ensures c.node_estimate.ensures

pub inputs_of-loop-place-init : goal.inputs_of-loop-place-init
inputs_of-loop-place-init t c = no-inputs (plan_estimate c.args.statistics.now c.args.log.now.instances (rows_at c.args.cardinalities.now) c.args.log.now.log) c.args.plans.now

pub inputs_of-loop-place-preserved : goal.inputs_of-loop-place-preserved
inputs_of-loop-place-preserved t c =
    let L = c.args.log.now in
    input-more (plan_estimate c.args.statistics.now L.instances (rows_at c.args.cardinalities.now) L.log) c.args.plans.now c.loop-place.place c.index-plans-place.result c.plan_estimate-input.result c.loop-place.inputs _ (omega arith) c.index-plans-place.is c.loop-place.invariant c.plan_estimate-input.ensures c.with_input-inputs.ensures
