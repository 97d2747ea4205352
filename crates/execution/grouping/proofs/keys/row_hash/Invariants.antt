use Rattle.std.proofs.Common.{◌≡◌, fold, take}
use Rattle.joins.specs.Hashes.{value_hash}
use Rattle.grouping.specs.KeyBuckets.{column_key}
use Rattle.grouping.proofs.keys.row_hash.Given as goal

abbrev pub invariant-loop-column : goal.invariant-loop-column
invariant-loop-column l = l.hash ≡ fold value_hash 0 (column_key (take l.column-index l.columns) l.row)
