use Rattle.std.proofs.Common.{[], get_or, length}
use Rattle.grouping.specs.KeyBuckets.{column_key, key_hash}
use Rattle.grouping.proofs.GroupHashes.{IsSearched}
use Rattle.grouping.proofs.key_table.KeyTable.found.Given as goal

abbrev pub ghost-has_key : goal.ghost-has_key
ghost-has_key g a = g.keys

abbrev pub invariant-loop-from : goal.invariant-loop-from
invariant-loop-from g l = IsSearched key_hash (λ n. get_or g.keys n []) (column_key l.columns l.row) (length g.keys) l.from

abbrev pub decreases-loop-from : goal.decreases-loop-from
decreases-loop-from g l = l.from
