use Rattle.std.proofs.Common.{◌≡◌, length, map, take}
use Rattle.std.specs.List.{range_with_len, zip}
use Rattle.statistics.specs.Counting.{table_counts}
use Rattle.statistics.proofs.counting.each_table.Given as goal

-- the tables so far, by their numbers
abbrev pub invariant-loop-entry : goal.invariant-loop-entry
invariant-loop-entry l = (l.read ≡ map (λ t. table_counts l.counted t.0 t.1.1 t.1.0) (take (length l.yielded) (zip (range_with_len 0 (length l.entries)) (zip l.entries l.tables)))) × (length l.read ≡ length l.yielded)
