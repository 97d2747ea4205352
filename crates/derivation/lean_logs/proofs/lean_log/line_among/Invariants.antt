use Rattle.std.proofs.Common.{◌≡◌, ℕ, true, Some, take}
use Rattle.algebra.specs.Columns.{has}
use Rattle.rules.specs.Matches as matches
use Rattle.derivation.specs.Logs.{member}
use Rattle.lean_logs.proofs.lean_log.line_among.Given as goal

-- none of the lines so far has the expression
abbrev pub invariant-loop-line : goal.invariant-loop-line
invariant-loop-line l = (n : ℕ) → has (take l.line-index l.lines) n ≡ true → (k : matches.Line) → member l.log.log n ≡ Some k → k.expr ≡ l.expr → ⊥
