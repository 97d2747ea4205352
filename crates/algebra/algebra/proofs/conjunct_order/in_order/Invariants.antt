use Rattle.std.proofs.Common.{◌≡◌, ◌++◌, List, length}
use Rattle.algebra.specs.declared.condition.Condition.{Condition}
use Rattle.algebra.specs.ConjunctOrder as spec
use Rattle.algebra.proofs.conjunct_order.in_order.Given as goal

-- the conditions that were taken are in order
abbrev pub invariant-loop-condition : goal.invariant-loop-condition
invariant-loop-condition l = (taken : List Condition) × (l.conditions.items ++ taken ≡ l.fn.conditions.items) × (l.order.items ≡ spec.in_order taken)

abbrev pub decreases-loop-condition : goal.decreases-loop-condition
decreases-loop-condition l = length l.conditions.items
