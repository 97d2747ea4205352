use Rattle.std.proofs.Common.{◌≡◌, ◌++◌}
use Rattle.algebra.proofs.conjunct_order.conditions_of.Given as goal

abbrev pub invariant-loop-spelt : goal.invariant-loop-spelt
invariant-loop-spelt l = l.conditions.items ++ l.spelt-iterator.rest.items ≡ l.fn.order.items
