use Rattle.std.proofs.Common.{refl, sym, subst, map, take, ◌++◌, ◌∷◌, [], arith}
use Rattle.std.proofs.lemmas.List.{take_all}
use Rattle.values.proofs.Lists.{map_next}
use Rattle.physical.specs.Outputs.{plan_output}
use Rattle.plan_reads.specs.Readings.{AreReadings}
use Rattle.plan_reads.proofs.KnownReadings.{if_ok, plan-reads, readings-more}
use Rattle.plan_reads.proofs.plans.+readings.Goals as goal

pub plan_reading-returns : goal.plan_reading-returns
plan_reading-returns t c = λ D.
    let instances = c.args.instances.now in
    let inputs = map (plan_output instances D) c.as_slice.result.now in
    if_ok c.node_reading.result (λ r is. plan-reads instances D c.args.plan.now _ c.as_slice.result.now r refl c.as_slice.ensures is)
    (c.node_reading.ensures D inputs (subst (AreReadings inputs) (sym c.as_slice-2.ensures.value) (c.in_ok-inputs.ensures D)))

pub plan_readings-returns : goal.plan_readings-returns
plan_readings-returns t c = λ D.
    let f = plan_output c.args.instances.now D in
    subst (λ ps. AreReadings (map f ps) c.loop-plan.readings.items) (take_all c.loop-plan.plan-index c.args.plans.now (omega arith)) (c.loop-plan.invariant D)

pub plan_readings-loop-plan-preserved : goal.plan_readings-loop-plan-preserved
plan_readings-loop-plan-preserved t c = λ D.
    let f = plan_output c.args.instances.now D in
    let plan = c.plan-item.result in
    let front = map f (take c.loop-plan.plan-index c.args.plans.now) in
    let next = map_next f c.args.plans.now c.loop-plan.plan-index plan (omega arith) c.plan-item.is in
    subst (λ ps. AreReadings ps c.push.new.self.items) (sym next)
    (subst (AreReadings (front ++ f plan ∷ [])) (sym c.in_ok-push.ensures.items)
    (readings-more front (f plan) c.loop-plan.readings.items c.in_ok-plan_reading.field-0 (c.loop-plan.invariant D) (c.in_ok-plan_reading.ensures D)))
