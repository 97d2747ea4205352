use Rattle.std.proofs.Common.{◌≡◌, map}
use Rattle.std.specs.List.{range_with_len}
use Rattle.statistics.specs.ColumnKeys as spec
use Rattle.statistics.proofs.column_keys.column_keys.Given as goal

-- the keys of the columns so far
abbrev pub invariant-loop-place : goal.invariant-loop-place
invariant-loop-place l = l.keys ≡ map (λ place. spec.known_keys l.entry l.rows place (spec.is_counted l.counted l.table place)) (range_with_len 0 l.place)
