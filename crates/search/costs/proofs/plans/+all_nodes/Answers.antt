use Rattle.std.proofs.Common.{arith, sym}
use Rattle.std.proofs.lemmas.List.{append-nil}
use Rattle.costs.specs.Cardinalities.{rows_at}
use Rattle.costs.specs.Costs.{plan_estimate, estimates_by}
use Rattle.costs.proofs.NodeEstimates.{place-filled, estimates-more}
use Rattle.costs.proofs.PlanEstimates.{estimate_at, no-inputs, input-more}
use Rattle.costs.proofs.plans.+all_nodes.Goals as goal

pub push_estimates-returns-clause-all : goal.push_estimates-returns-clause-all
push_estimates-returns-clause-all t c =
    let S = c.args.statistics.now in
    let L = c.args.log.now in
    let own = estimate_at S L.instances (rows_at c.args.cardinalities.now) L.log c.args.plan.now c.as_slice.result.now c.node_estimate-own.result c.in_ok-inputs.inputs c.as_slice.ensures c.in_ok-inputs.ensures.own c.node_estimate-own.ensures in
    place-filled S L.instances (rows_at c.args.cardinalities.now) L.log c.args.plan.now c.as_slice.result.now c.node_estimate-own.result _ c.args.estimates.now.items _ _ c.len-place.result (omega (arith, c.len-place.ensures, c.args.estimates.now.ok.0)) c.in_ok-push.ensures.items c.as_slice.ensures c.in_ok-inputs.ensures.all own

pub push_estimates-returns-clause-own : goal.push_estimates-returns-clause-own
push_estimates-returns-clause-own t c =
    let L = c.args.log.now in
    estimate_at c.args.statistics.now L.instances (rows_at c.args.cardinalities.now) L.log c.args.plan.now c.as_slice.result.now c.node_estimate-own.result c.in_ok-inputs.inputs c.as_slice.ensures c.in_ok-inputs.ensures.own c.node_estimate-own.ensures

pub push_inputs-loop-place-init : goal.push_inputs-loop-place-init
push_inputs-loop-place-init t c =
    let L = c.args.log.now in
    (sym (append-nil c.args.estimates.now.items), no-inputs (plan_estimate c.args.statistics.now L.instances (rows_at c.args.cardinalities.now) L.log) c.args.plans.now)

pub push_inputs-loop-place-preserved : goal.push_inputs-loop-place-preserved
push_inputs-loop-place-preserved t c =
    let S = c.args.statistics.now in
    let L = c.args.log.now in
    let plans = c.args.plans.now in
    let i = c.loop-place.place in
    let plan = c.index-plans-place.result in (
      estimates-more (estimates_by S L.instances (rows_at c.args.cardinalities.now) L.log) plans i plan c.args.estimates.now.items c.loop-place.estimates.items _ (omega arith) c.index-plans-place.is c.loop-place.invariant.0 c.in_ok-input.ensures.all,
      input-more (plan_estimate S L.instances (rows_at c.args.cardinalities.now) L.log) plans i plan c.in_ok-input.input c.loop-place.inputs _ (omega arith) c.index-plans-place.is c.loop-place.invariant.1 c.in_ok-input.ensures.own c.with_input-inputs.ensures,
    )
