use Rattle.std.proofs.Common.{◌≡◌, take}
use Rattle.closure.specs.Numbers as spec
use Rattle.closure.proofs.numbers.mixed_all.Given as goal

abbrev pub invariant-loop-number : goal.invariant-loop-number
invariant-loop-number l = l.sum ≡ spec.mixed_all l.first (take l.number-index l.numbers)
