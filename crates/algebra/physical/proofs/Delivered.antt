-- The order that a plan delivers, by its root's node.
use Rattle.std.proofs.Common.{◌≡◌, ap, sym, ◌∙◌, List, map}
use Rattle.algebra.proofs.Lists.{two}
use Rattle.query.specs.declared.query.TableInstance.{TableInstance}
use Rattle.physical.specs.declared.plan.OrderKey.{OrderKey}
use Rattle.physical.specs.declared.plan.Node.{Node}
use Rattle.physical.specs.declared.plan.Plan.{Plan, out-Plan, fold_out-Plan}
use Rattle.physical.specs.Orders.{node_order, order_layer, plan_order}

pub order_at : (instances : List TableInstance) (p : Plan) (node : Node) (inputs : List Plan) → (out-Plan p).node ≡ node → inputs ≡ (out-Plan p).inputs → node_order instances node (map (plan_order instances) inputs) ≡ plan_order instances p
unfolding plan_order
order_at instances p node inputs is given = two (node_order instances) (sym is) (ap (map (plan_order instances)) given) ∙ sym (fold_out-Plan (List OrderKey) (order_layer instances) p)
