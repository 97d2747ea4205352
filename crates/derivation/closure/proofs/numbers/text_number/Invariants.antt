use Rattle.std.proofs.Common.{◌≡◌, take}
use Rattle.closure.specs.Numbers as spec
use Rattle.closure.proofs.numbers.text_number.Given as goal

abbrev pub invariant-loop-byte : goal.invariant-loop-byte
invariant-loop-byte l = l.sum ≡ spec.mixed_all 0 (take l.byte-index l.byte-items)
