use Rattle.std.proofs.Common.{◌≡◌, ◌++◌, take}
use Rattle.algebra.proofs.conjunct_parts.add_copies.Given as goal

abbrev pub invariant-loop-condition : goal.invariant-loop-condition
invariant-loop-condition l = l.copies.items ≡ l.fn.copies.items ++ take l.condition-index l.conditions
