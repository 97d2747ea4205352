use Rattle.std.proofs.Common.{◌≡◌, take}
use Rattle.algebra.proofs.condition.+same.Given as goal

abbrev pub invariant-same_all-loop-i : goal.invariant-same_all-loop-i
invariant-same_all-loop-i l = take l.i l.conditions ≡ take l.i l.others
