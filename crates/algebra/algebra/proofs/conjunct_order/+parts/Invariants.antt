use Rattle.std.proofs.Common.{◌≡◌, ◌++◌, take}
use Rattle.std.specs.List.{flat_map}
use Rattle.algebra.specs.ConjunctOrder.{parts_of}
use Rattle.algebra.proofs.conjunct_order.+parts.Given as goal

abbrev pub invariant-add_all_parts-loop-condition : goal.invariant-add_all_parts-loop-condition
invariant-add_all_parts-loop-condition l = l.parts.items ≡ l.fn.parts.items ++ flat_map parts_of (take l.condition-index l.conditions)
