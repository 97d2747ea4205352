use Rattle.std.proofs.Common.{◌≡◌, ◌<◌, ℕ, Some}
use Rattle.rules.specs.Matches as matches
use Rattle.derivation.specs.Logs.{member}
use Rattle.lean_logs.specs.Texts.{IsEntered}
use Rattle.lean_logs.proofs.lean_log.lines_of.Given as goal

-- the lines so far are entered
abbrev pub invariant-loop-line : goal.invariant-loop-line
invariant-loop-line l = (n : ℕ) (k : matches.Line) → n < l.line → member l.log.log n ≡ Some k → IsEntered l.lines k.expr n
