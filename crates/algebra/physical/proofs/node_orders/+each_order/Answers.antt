use Rattle.std.proofs.Common.{ap, ◌∙◌, map}
use Rattle.std.proofs.lemmas.List.{take_all}
use Rattle.physical.specs.EachOrder as spec
use Rattle.physical.specs.Orders.{node_order}
use Rattle.physical.specs.declared.plan.Plan.{out-Plan}
use Rattle.physical.proofs.DeliveredOrders.{each_at}
use Rattle.physical.proofs.node_orders.+each_order.Goals as goal

pub returns : goal.returns
returns t c =
    let instances = c.args.instances.now in
    each_at instances c.args.plan.now c.as_slice-input-items.result.now c.in_ok-order.order c.loop-input.inputs c.as_slice-input-items.ensures
    (c.loop-input.invariant ∙ ap (map (spec.each_order instances)) (take_all c.loop-input.input-index c.as_slice-input-items.result.now c.loop-input-test.false))
    (c.in_ok-order.ensures ∙ ap (λ ds. node_order instances (out-Plan c.args.plan.now).node (map spec.order_of ds)) c.as_slice.ensures)
