use Rattle.std.proofs.Common.{◌≡◌, take}
use Rattle.grouping.specs.KeyBuckets.{column_key}
use Rattle.grouping.proofs.keys.are_same.Given as goal

abbrev pub invariant-loop-column : goal.invariant-loop-column
invariant-loop-column l = take l.column-index (column_key l.columns l.one) ≡ take l.column-index (column_key l.columns l.other)
