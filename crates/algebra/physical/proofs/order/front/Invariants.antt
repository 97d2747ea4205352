use Rattle.std.proofs.Common.{◌≡◌, ◌++◌, drop}
use Rattle.algebra.specs.Columns.{has}
use Rattle.physical.specs.Orders as spec
use Rattle.physical.proofs.order.front.Given as goal

abbrev pub invariant-loop-key : goal.invariant-loop-key
invariant-loop-key l = l.keys.items ++ spec.front (has l.columns) (drop l.key-index l.order) ≡ spec.front (has l.columns) l.order
