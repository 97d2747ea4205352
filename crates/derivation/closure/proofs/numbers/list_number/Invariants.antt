use Rattle.std.proofs.Common.{◌≡◌, take}
use Rattle.closure.specs.Numbers as spec
use Rattle.closure.proofs.numbers.list_number.Given as goal

abbrev pub invariant-loop-condition : goal.invariant-loop-condition
invariant-loop-condition l = l.sum ≡ spec.conditions_number (take l.condition-index l.conditions)
