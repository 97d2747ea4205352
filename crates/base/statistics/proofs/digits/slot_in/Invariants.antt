use Rattle.std.proofs.Common.{◌≡◌, take}
use Rattle.statistics.specs.Digits as spec
use Rattle.statistics.proofs.digits.slot_in.Given as goal

-- the slot by the columns so far
abbrev pub invariant-loop-column : goal.invariant-loop-column
invariant-loop-column l = l.slot ≡ spec.slot_in l.row (take l.column-index l.columns)
