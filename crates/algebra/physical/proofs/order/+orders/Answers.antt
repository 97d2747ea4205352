use Rattle.std.proofs.Common.{◌≡◌, ◌∙◌, subst, List, ◌++◌, IfOk}
use Rattle.algebra.proofs.Lists.{two}
use Rattle.physical.specs.declared.plan.OrderKey.{OrderKey}
use Rattle.physical.specs.declared.plan.Node.TheVariants as node
use Rattle.physical.proofs.Delivered.{order_at}
use Rattle.physical.proofs.order.+orders.Goals as goal

pub delivers-returns-in-Implements : goal.delivers-returns-in-Implements
delivers-returns-in-Implements t c =
    subst (λ (z : List OrderKey). IfOk c.operator_order.result (λ order. order.items ≡ z))
    (order_at c.args.instances.now c.args.plan.now (node.Implements c.in-Implements.line c.in-Implements.operator) c.as_slice-inputs.result.now c.in-Implements.is c.as_slice-inputs.ensures) c.operator_order.ensures

pub delivers-returns-in_ok-extend_from_slice-in-Sort : goal.delivers-returns-in_ok-extend_from_slice-in-Sort
delivers-returns-in_ok-extend_from_slice-in-Sort t c =
    c.in_ok-extend_from_slice-in-Sort.ensures.items ∙ two (λ a b. a ++ b) c.new-order.ensures.items c.as_slice.ensures
    ∙ order_at c.args.instances.now c.args.plan.now (node.Sort c.in-Sort.keys) c.as_slice-inputs.result.now c.in-Sort.is c.as_slice-inputs.ensures
