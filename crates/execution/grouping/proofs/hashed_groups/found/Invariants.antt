use Rattle.std.proofs.Common.{[], get_or, length, map}
use Rattle.grouping.specs.KeyBuckets.{column_key, key_hash}
use Rattle.grouping.specs.RowNumbers.{numbers_in}
use Rattle.grouping.proofs.GroupHashes.{IsSearched}
use Rattle.grouping.proofs.hashed_groups.found.Given as goal

abbrev pub invariant-loop-from : goal.invariant-loop-from
invariant-loop-from l = IsSearched key_hash (λ g. get_or (map (column_key l.columns) (numbers_in l.firsts)) g []) (column_key l.columns l.row) (length (map (column_key l.columns) (numbers_in l.firsts))) l.from

abbrev pub decreases-loop-from : goal.decreases-loop-from
decreases-loop-from l = l.from
