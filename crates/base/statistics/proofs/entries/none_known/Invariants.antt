use Rattle.std.proofs.Common.{◌≡◌, take}
use Rattle.statistics.specs.Entries as spec
use Rattle.statistics.proofs.entries.none_known.Given as goal

-- None for each column so far
abbrev pub invariant-loop-column : goal.invariant-loop-column
invariant-loop-column l = l.keys ≡ spec.none_known (take l._column-index l.columns)
