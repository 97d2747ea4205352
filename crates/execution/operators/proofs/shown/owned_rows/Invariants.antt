use Rattle.std.proofs.Common.{◌≡◌, take}
use Rattle.operators.proofs.shown.owned_rows.Given as goal

abbrev pub invariant-loop-number : goal.invariant-loop-number
invariant-loop-number l = l.rows.items ≡ take l.number l.found
