use Rattle.std.proofs.Common.{◌≡◌, take}
use Rattle.certificate.proofs.order_fit.are_same.Given as goal

abbrev pub invariant-loop-i : goal.invariant-loop-i
invariant-loop-i l = take l.i l.keys ≡ take l.i l.others
