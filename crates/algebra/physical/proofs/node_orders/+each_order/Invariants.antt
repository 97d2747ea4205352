use Rattle.std.proofs.Common.{◌≡◌, map, take}
use Rattle.physical.specs.EachOrder as spec
use Rattle.physical.proofs.node_orders.+each_order.Given as goal

abbrev pub invariant-loop-input : goal.invariant-loop-input
invariant-loop-input l = l.inputs ≡ map (spec.each_order l.instances) (take l.input-index l.input-items)
