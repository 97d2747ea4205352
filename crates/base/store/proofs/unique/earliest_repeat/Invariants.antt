use Rattle.std.proofs.Common.{take}
use Rattle.store.proofs.Repeats.{IsFound}
use Rattle.store.proofs.unique.earliest_repeat.Given as goal

abbrev pub invariant-loop-places : goal.invariant-loop-places
invariant-loop-places l = IsFound l.rows (take l.places-index l.unique) l.limit l.found
