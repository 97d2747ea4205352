use Rattle.std.proofs.Common.{take}
use Rattle.lean_logs.proofs.Serving.{AreLeft}
use Rattle.lean_logs.proofs.served.left_by.Given as goal

-- of those so far
abbrev pub invariant-loop-number : goal.invariant-loop-number
invariant-loop-number l = AreLeft (take l.number-index l.waiting) l.line l.left.items
