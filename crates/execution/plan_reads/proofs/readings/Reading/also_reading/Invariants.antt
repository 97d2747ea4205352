use Rattle.std.proofs.Common.{◌≡◌, ◌++◌, not, filter, take}
use Rattle.algebra.specs.Columns.{has}
use Rattle.plan_reads.proofs.readings.Reading.also_reading.Given as goal

abbrev pub invariant-loop-column : goal.invariant-loop-column
invariant-loop-column l = l.free.items ≡ l.self.free ++ filter (λ c. not (has l.self.columns c)) (take l.column-index l.read)
