use Rattle.std.proofs.Common.{◌≡◌, take}
use Rattle.store.proofs.key.RowKey.is_below.Given as goal

abbrev pub invariant-loop-number : goal.invariant-loop-number
invariant-loop-number l = take l.number l.self ≡ take l.number l.other
