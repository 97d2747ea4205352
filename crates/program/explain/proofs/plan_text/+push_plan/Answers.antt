use Rattle.std.proofs.Common.{arith, ap, ◌+◌, length}
use Rattle.physical.specs.declared.plan.Plan.{out-Plan}
use Rattle.explain.specs.PlanTexts as spec
use Rattle.explain.proofs.PlanTexts.{lines-more, next-more, all-below, all-lines}
use Rattle.explain.proofs.plan_text.+push_plan.Goals as goal

pub loop-input-preserved : goal.loop-input-preserved
loop-input-preserved t c =
    let inputs = c.as_slice-input-items.result.now in
    let i = c.loop-input.input-index in
    let deeper = c.in_ok-deeper.deeper in
    let first = spec.form_text c.args.form c.args.names.now c.args.number (record { depth = c.args.depth; node = (out-Plan c.args.plan.now).node }) (spec.estimate_at c.args.figures.estimates.now c.args.number) (spec.measure_at c.args.figures.measures.now c.args.number) in (
      lines-more c.args.form c.args.names.now c.args.figures.estimates.now c.args.figures.measures.now (c.args.number + 1) inputs i c.input-item.result deeper c.loop-input.next c.args.text.now.items first _ _ c.loop-input-test.true c.input-item.is c.loop-input.invariant.0 c.loop-input.invariant.1 c.in_ok-next-2.ensures.text,
      next-more (c.args.number + 1) inputs i c.input-item.result deeper c.loop-input.next _ c.loop-input-test.true c.input-item.is c.loop-input.invariant.1 c.in_ok-next-2.ensures.next,
    )

pub returns-clause-text : goal.returns-clause-text
returns-clause-text t c =
    let nodes = all-below c.args.plan.now c.as_slice-input-items.result.now c.loop-input.input-index c.args.depth c.in_ok-deeper.deeper c.as_slice-input-items.ensures c.loop-input-test.false c.in_ok-deeper.ensures in
    all-lines c.args.form c.args.names.now c.args.figures.estimates.now c.args.figures.measures.now c.args.number _ _ _ c.args.text.now.items c.loop-input.text.items c.loop-input.invariant.0 nodes

pub returns-clause-next : goal.returns-clause-next
returns-clause-next t c =
    let nodes = ap length (all-below c.args.plan.now c.as_slice-input-items.result.now c.loop-input.input-index c.args.depth c.in_ok-deeper.deeper c.as_slice-input-items.ensures c.loop-input-test.false c.in_ok-deeper.ensures) in
    omega (arith, c.loop-input.invariant.1, nodes)
