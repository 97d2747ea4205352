use Rattle.std.proofs.Common.{◌≡◌, take}
use Rattle.algebra.proofs.aggregations.are_same.Given as goal

abbrev pub invariant-loop-i : goal.invariant-loop-i
invariant-loop-i l = take l.i l.added ≡ take l.i l.others
