use Rattle.std.proofs.Common.{take}
use Rattle.std.specs.List.{AllByRecursion}
use Rattle.algebra.specs.ConjunctOrder.{IsPart}
use Rattle.algebra.proofs.rising.are_parts.Given as goal

abbrev pub invariant-loop-condition : goal.invariant-loop-condition
invariant-loop-condition l = AllByRecursion IsPart (take l.condition-index l.conditions)
