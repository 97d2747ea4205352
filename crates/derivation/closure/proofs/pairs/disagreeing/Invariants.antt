use Rattle.std.proofs.Common.{ℕ, ◌<◌}
use Rattle.closure.specs.Places.{AgreesWithAll}
use Rattle.closure.proofs.pairs.disagreeing.Given as goal

abbrev pub invariant-loop-line : goal.invariant-loop-line
invariant-loop-line l = (i : ℕ) → i < l.line → AgreesWithAll l.log.log i
