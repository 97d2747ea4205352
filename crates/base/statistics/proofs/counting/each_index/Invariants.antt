use Rattle.std.proofs.Common.{◌≡◌, map, take}
use Rattle.statistics.specs.Counting.{index_counts}
use Rattle.statistics.proofs.counting.each_index.Given as goal

abbrev pub invariant-loop-places : goal.invariant-loop-places
invariant-loop-places l = l.counted ≡ map (index_counts l.rows) (take l.places-index l.entry.indexes)
