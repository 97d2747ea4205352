use Rattle.std.proofs.Common.{ℕ, ◌<◌}
use Rattle.closure.specs.Lines.{HasResultsOf}
use Rattle.closure.proofs.closing.lacking.Given as goal

abbrev pub invariant-loop-line : goal.invariant-loop-line
invariant-loop-line l = (i : ℕ) → i < l.line → HasResultsOf l.log.instances l.log.log i
