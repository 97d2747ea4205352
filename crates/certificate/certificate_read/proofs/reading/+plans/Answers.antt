use Rattle.std.proofs.Common.{◌<◌, ◌+◌, ◌++◌, length, map, flat_map, sum, sym, ◌∙◌, ap, subst, arith}
use Rattle.std.specs.List.{AllByRecursion}
use Rattle.physical.specs.declared.plan.Plan.{out-Plan, roll-Plan, roll-out-Plan}
use Rattle.certificate_text.specs.CertificateText.{plan_text, node_count}
use Rattle.certificate_read.specs.TextReading.{IsReadablePlan}
use Rattle.certificate_read.proofs.PlanNodes.{plan_opened, inputs_balanced, next_wanted, root_wanted, none_wanted, root_text}
use Rattle.certificate_read.proofs.TextLists.{so_far_whole, so_far_next, so_far_read}
use Rattle.certificate_read.proofs.WordCalls.{fails}
use Rattle.std.proofs.Common.{◌∷◌}
use Rattle.certificate_text.proofs.Exits.{holds_of_fault}
use Rattle.certificate_read.specs.TextCalls.{PassesInputs, PassesPlan}
use Rattle.certificate_read.proofs.PlanFaults.{has_room, inputs_counted, inputs_fit, plan_read, room_left, input_more, input_refused, inputs_passed, inputs_refused, next_before, no_inputs}
use Rattle.certificate_read.proofs.reading.+plans.Goals as goal

pub inputs_within-loop-done-init : goal.inputs_within-loop-done-init
inputs_within-loop-done-init t c = (
  (λ ps k w rest h count wanted balanced e. ((ps, (h, ap (λ inputs. inputs ++ ps) (sym c.new-inputs.ensures), e, ap length c.new-inputs.ensures)), wanted)),
  (λ w ws wanted few most some deep. no_inputs c.in-Some.below c.args.count w ws c.args.wanted.now c.args.text.now _ wanted c.new-inputs.ensures),
)

pub inputs_within-returns-in_err-plan_within-clause-complete : goal.inputs_within-returns-in_err-plan_within-clause-complete
inputs_within-returns-in_err-plan_within-clause-complete t c = λ ps k w rest h count room wanted balanced e.
    let within = subst (λ room. AllByRecursion (IsReadablePlan room) ps) (sym c.in-Some.ensures.1) h in
    let left = c.loop-done.invariant.0 ps k w rest within count wanted balanced e in
    let below : c.loop-done._done < length ps = omega (arith, c.loop-done-test.true, count) in
    let next = so_far_next plan_text (IsReadablePlan c.in-Some.below) ps rest c.loop-done.text.left.now c.loop-done.inputs c.loop-done._done left.0 below in
    fails _ c.from_residual.result c.in_err-plan_within.field-0.0 c.from_residual.ensures.1
    (c.in_err-plan_within.ensures.complete next.0 (sum (map node_count next.1) + k) (w + length next.1) (flat_map plan_text next.1 ++ rest) next.3
    (next_wanted k w left.0.0 next.1 next.0 c.loop-done.wanted next.2 left.1) (inputs_balanced k w next.1 balanced) next.6)

pub inputs_within-loop-done-preserved : goal.inputs_within-loop-done-preserved
inputs_within-loop-done-preserved t c = (
  (λ ps k w rest within count wanted balanced e.
      let left = c.loop-done.invariant.0 ps k w rest within count wanted balanced e in
      let below : c.loop-done._done < length ps = omega (arith, c.loop-done-test.true, count) in
      let next = so_far_next plan_text (IsReadablePlan c.in-Some.below) ps rest c.loop-done.text.left.now c.loop-done.inputs c.loop-done._done left.0 below in
      let read = c.in_ok-plan_within.ensures.complete next.0 (sum (map node_count next.1) + k) (w + length next.1) (flat_map plan_text next.1 ++ rest) next.3
      (next_wanted k w left.0.0 next.1 next.0 c.loop-done.wanted next.2 left.1) (inputs_balanced k w next.1 balanced) next.6 in (
        (
          next.1,
          so_far_read plan_text (IsReadablePlan c.in-Some.below) ps rest c.loop-done.text.left.now c.loop-done.inputs c.loop-done._done left.0 below c.in_ok-plan_within.field-0 c.plan_within.new.text.left.now c.push.new.self read.0 read.1
              c.in_ok-push.ensures.ok,
        ),
        read.2,
      )),
  (λ w ws wanted few most some deep.
      let so_far = c.loop-done.invariant.1 w ws wanted few most some deep in
      let next = next_before c.in-Some.below c.args.count w ws c.args.wanted.now c.loop-done.wanted c.args.text.now c.loop-done.text c.loop-done.inputs c.loop-done._done so_far few most wanted c.args.room some deep c.in-Some.ensures.1 c.loop-done-test.true in
      input_more c.in-Some.below c.args.count w ws c.args.wanted.now c.loop-done.wanted c.args.text.now c.loop-done.text c.loop-done.inputs c.loop-done._done so_far few most wanted next.0 next.1 c.plan_within.new.wanted c.plan_within.new.text c.in_ok-plan_within.field-0 c.push.new.self
      (c.in_ok-plan_within.ensures.exact next.0 (w ∷ ws) next.2) c.in_ok-push.ensures.ok),
)

pub inputs_within-returns-clause-complete : goal.inputs_within-returns-clause-complete
inputs_within-returns-clause-complete t c = λ ps k w rest h count room wanted balanced e.
    let within = subst (λ room. AllByRecursion (IsReadablePlan room) ps) (sym c.in-Some.ensures.1) h in
    let left = c.loop-done.invariant.0 ps k w rest within count wanted balanced e in
    let whole = so_far_whole plan_text (IsReadablePlan c.in-Some.below) ps rest c.loop-done.text.left.now c.loop-done.inputs c.loop-done._done left.0 (omega (arith, c.loop-done-test.false, count)) in
    (whole.0, whole.1, none_wanted k w left.0.0 c.loop-done.wanted whole.2 left.1)

pub plan_within-returns-in_err-node-clause-complete : goal.plan_within-returns-in_err-node-clause-complete
plan_within-returns-in_err-node-clause-complete t c = λ p k w rest h wanted balanced e.
    let opened = plan_opened c.args.room p h in
    let inputs = (out-Plan p).inputs in
    fails _ c.from_residual.result c.in_err-node.field-0.0 c.from_residual.ensures.1
    (c.in_err-node.ensures.complete (out-Plan p).node (length inputs) (sum (map node_count inputs) + k) w (flat_map plan_text inputs ++ rest) opened.1 opened.0 (root_wanted k w p c.args.wanted.now wanted) (inputs_balanced k w inputs balanced) (e ∙ root_text p rest))

pub plan_within-returns-in_err-inputs-clause-complete : goal.plan_within-returns-in_err-inputs-clause-complete
plan_within-returns-in_err-inputs-clause-complete t c = λ p k w rest h wanted balanced e.
    let opened = plan_opened c.args.room p h in
    let inputs = (out-Plan p).inputs in
    let read = c.in_ok-node.ensures.complete (out-Plan p).node (length inputs) (sum (map node_count inputs) + k) w (flat_map plan_text inputs ++ rest) opened.1 opened.0 (root_wanted k w p c.args.wanted.now wanted)
    (inputs_balanced k w inputs balanced) (e ∙ root_text p rest) in
    fails _ c.from_residual-in_err-inputs.result c.in_err-inputs.field-0.0 c.from_residual-in_err-inputs.ensures.1
    (c.in_err-inputs.ensures.complete inputs k w rest opened.2 (sym read.1) opened.0 read.3 balanced read.2)

pub plan_within-returns-clause-complete : goal.plan_within-returns-clause-complete
plan_within-returns-clause-complete t c = λ p k w rest h wanted balanced e.
    let opened = plan_opened c.args.room p h in
    let inputs = (out-Plan p).inputs in
    let read = c.in_ok-node.ensures.complete (out-Plan p).node (length inputs) (sum (map node_count inputs) + k) w (flat_map plan_text inputs ++ rest) opened.1 opened.0 (root_wanted k w p c.args.wanted.now wanted)
    (inputs_balanced k w inputs balanced) (e ∙ root_text p rest) in
    let behind = c.in_ok-inputs.ensures.complete inputs k w rest opened.2 (sym read.1) opened.0 read.3 balanced read.2 in
    ((λ i. roll-Plan (record { node = read.0 i; inputs = behind.0 i })) ∙ roll-out-Plan p, behind.1, behind.2)

pub inputs_within-returns-in_err-plan_within-clause-exact : goal.inputs_within-returns-in_err-plan_within-clause-exact
inputs_within-returns-in_err-plan_within-clause-exact t c = λ w ws some deep wanted few most.
    let so_far = c.loop-done.invariant.1 w ws wanted few most some deep in
    let next = next_before c.in-Some.below c.args.count w ws c.args.wanted.now c.loop-done.wanted c.args.text.now c.loop-done.text c.loop-done.inputs c.loop-done._done so_far few most wanted c.args.room some deep c.in-Some.ensures.1 c.loop-done-test.true in
    holds_of_fault (PassesInputs c.args.room c.args.count w ws c.args.wanted.now c.plan_within.new.wanted c.args.text.now c.plan_within.new.text) c.from_residual.result c.in_err-plan_within.field-0.0 c.from_residual.ensures.1
    (input_refused c.in-Some.below c.args.count w ws c.args.wanted.now c.loop-done.wanted c.args.text.now c.loop-done.text c.loop-done.inputs c.loop-done._done so_far few most wanted next.0 next.1 c.in_err-plan_within.field-0.0
    (c.in_err-plan_within.ensures.exact next.0 (w ∷ ws) next.2))

pub inputs_within-returns-clause-exact : goal.inputs_within-returns-clause-exact
inputs_within-returns-clause-exact t c = λ w ws some deep wanted few most.
    let so_far = c.loop-done.invariant.1 w ws wanted few most some deep in
    let all = inputs_passed c.in-Some.below c.args.count w ws c.args.wanted.now c.loop-done.wanted c.args.text.now c.loop-done.text c.loop-done.inputs c.loop-done._done so_far few most wanted c.loop-done-test.false in
    (all.0, subst (λ room. AllByRecursion (IsReadablePlan room) c.loop-done.inputs) c.in-Some.ensures.1 all.1, all.2)

pub plan_within-returns-in_err-inputs-clause-exact : goal.plan_within-returns-in_err-inputs-clause-exact
plan_within-returns-in_err-inputs-clause-exact t c = λ w ws before.
    let read = c.in_ok-node.ensures.exact w ws before in
    let r = c.in_ok-node.field-0 in
    let mid = c.node_within.new.wanted in
    holds_of_fault (PassesPlan c.args.room w ws c.args.wanted.now c.inputs_within.new.wanted c.args.text.now c.inputs_within.new.text) c.from_residual-in_err-inputs.result c.in_err-inputs.field-0.0 c.from_residual-in_err-inputs.ensures.1
    (inputs_refused w ws c.args.wanted.now mid c.args.text.now c.node_within.new.text r c.in_err-inputs.field-0.0 read
    (c.in_err-inputs.ensures.exact w ws (has_room w ws c.args.room c.args.wanted.now mid c.args.text.now c.node_within.new.text r before read) (room_left w ws c.args.room c.args.wanted.now mid c.args.text.now c.node_within.new.text r before read) read.5
    (inputs_fit w ws c.args.room c.args.wanted.now mid c.args.text.now c.node_within.new.text r before read) (inputs_counted w ws c.args.room c.args.wanted.now mid c.args.text.now c.node_within.new.text r before read)))

pub plan_within-returns-clause-exact : goal.plan_within-returns-clause-exact
plan_within-returns-clause-exact t c = λ w ws before.
    let read = c.in_ok-node.ensures.exact w ws before in
    let r = c.in_ok-node.field-0 in
    let mid = c.node_within.new.wanted in
    plan_read w ws c.args.room c.args.wanted.now mid c.args.text.now c.node_within.new.text r before read c.inputs_within.new.wanted c.inputs_within.new.text c.in_ok-inputs.inputs
    (c.in_ok-inputs.ensures.exact w ws (has_room w ws c.args.room c.args.wanted.now mid c.args.text.now c.node_within.new.text r before read) (room_left w ws c.args.room c.args.wanted.now mid c.args.text.now c.node_within.new.text r before read) read.5
    (inputs_fit w ws c.args.room c.args.wanted.now mid c.args.text.now c.node_within.new.text r before read) (inputs_counted w ws c.args.room c.args.wanted.now mid c.args.text.now c.node_within.new.text r before read))
