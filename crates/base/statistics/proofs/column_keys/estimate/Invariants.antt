use Rattle.std.proofs.Common.{◌≡◌, ◌≤◌, ◌*◌}
use Rattle.statistics.specs.ColumnKeys as spec
use Rattle.statistics.proofs.column_keys.estimate.Given as goal

-- what is expected until so many slots are marked, at most all slots for each
abbrev pub invariant-loop-taken : goal.invariant-loop-taken
invariant-loop-taken l = (l.thousandths ≡ spec.thousandths l.slots l.taken) × (l.thousandths ≤ l.taken * 1000000000)
