use Rattle.std.proofs.Common.{◌≡◌, length, take}
use Rattle.std.specs.List.{fold}
use Rattle.statistics.specs.ColumnKeys as spec
use Rattle.statistics.proofs.column_keys.text_number.Given as goal

-- what is left makes of the hash what the text makes of the first one
abbrev pub invariant-loop-rest : goal.invariant-loop-rest
invariant-loop-rest l = spec.bytes_hash l.hash l.rest ≡ spec.text_number l.text

abbrev pub invariant-loop-byte : goal.invariant-loop-byte
invariant-loop-byte l = l.hash ≡ fold spec.hash_behind l.initial.hash (take l.byte-index l.byte-items)

abbrev pub decreases-loop-rest : goal.decreases-loop-rest
decreases-loop-rest l = length l.rest
