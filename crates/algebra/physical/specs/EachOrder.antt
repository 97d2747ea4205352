-- The orders that a plan's nodes deliver: its own, and those of its inputs in the same form.
use Rattle.std.specs.Prelude.{List, map}
use Rattle.query.specs.declared.query.TableInstance.{TableInstance}
use Rattle.physical.specs.declared.node_orders.Delivered.{Delivered, roll-Delivered, out-Delivered}
use Rattle.physical.specs.declared.plan.Plan.{Plan, fold-Plan}
use Rattle.physical.specs.declared.plan.Plan.TheOpen.{Plan-F}
use Rattle.physical.specs.declared.plan.OrderKey.{OrderKey}
use Rattle.physical.specs.Orders.{node_order}

abbrev pub order_of : Delivered → List OrderKey
order_of d = (out-Delivered d).order

abbrev pub each_layer : List TableInstance → Plan-F Delivered → Delivered
each_layer instances p = roll-Delivered (record { order = node_order instances p.node (map order_of p.inputs); inputs = p.inputs })

unfoldable pub each_order : List TableInstance → Plan → Delivered
each_order instances = fold-Plan Delivered (each_layer instances)
