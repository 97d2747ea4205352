use Rattle.explain.proofs.DotTexts.{drawn-begins, next-begins, drawn-more, next-more, drawn-ends, next-ends}
use Rattle.explain.proofs.dot_text.+push_drawn.Goals as goal

pub loop-input-init : goal.loop-input-init
loop-input-init t c =
    let names = c.args.names.now in
    let estimates = c.args.estimates.now in
    let inputs = c.as_slice-input-items.result.now in (
      drawn-begins names estimates c.args.plan.now c.args.number c.in_ok-next.next inputs c.estimate_at.result c.args.text.now.items _ c.as_slice-input-items.ensures c.in_ok-next.ensures c.estimate_at.ensures c.in_ok-push_box.ensures,
      next-begins names estimates c.args.plan.now c.args.number c.in_ok-next.next inputs c.as_slice-input-items.ensures c.in_ok-next.ensures,
    )

pub loop-input-preserved : goal.loop-input-preserved
loop-input-preserved t c =
    let names = c.args.names.now in
    let estimates = c.args.estimates.now in
    let inputs = c.as_slice-input-items.result.now in
    let i = c.loop-input.input-index in
    let q = c.input-item.result in (
      drawn-more names estimates c.args.number inputs i q c.loop-input.next c.in_ok-next-2.next c.loop-input.text.items _ _ _ c.loop-input-test.true c.input-item.is c.loop-input.invariant.0 c.in_ok-push_edge.ensures c.in_ok-next-2.ensures.text c.in_ok-next-2.ensures.next,
      next-more names estimates c.args.number inputs i q c.loop-input.next c.in_ok-next-2.next _ c.loop-input-test.true c.input-item.is c.loop-input.invariant.1 c.in_ok-next-2.ensures.next,
    )

pub returns-clause-text : goal.returns-clause-text
returns-clause-text t c =
    drawn-ends c.args.names.now c.args.estimates.now c.args.number c.as_slice-input-items.result.now c.loop-input.input-index c.loop-input.next _ _ c.loop-input-test.false c.loop-input.invariant.0

pub returns-clause-next : goal.returns-clause-next
returns-clause-next t c =
    next-ends c.args.names.now c.args.estimates.now c.args.number c.as_slice-input-items.result.now c.loop-input.input-index c.loop-input.next _ c.loop-input-test.false c.loop-input.invariant.1
