use Rattle.std.proofs.Common.{◌≡◌, [], get_or, take}
use Rattle.grouping.specs.KeyBuckets.{column_key}
use Rattle.grouping.proofs.key_table.KeyTable.has_key.Given as goal

abbrev pub invariant-loop-place : goal.invariant-loop-place
invariant-loop-place g l = take l.place (column_key l.columns l.row) ≡ take l.place (get_or g.keys l.group [])
