use Rattle.std.proofs.Common.{◌≡◌, [], get_or, take}
use Rattle.operators.proofs.shown.owned_row.Given as goal

abbrev pub invariant-loop-item : goal.invariant-loop-item
invariant-loop-item l = l.values.items ≡ take l.item (get_or l.found l.number [])
