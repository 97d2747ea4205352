use Rattle.std.proofs.Common.{ℕ, ◌<◌, None}
use Rattle.closure.specs.Lacking.{UnlearntAt}
use Rattle.closure.proofs.closing.unlearnt.Given as goal

-- none of the first lines lacks a fact
abbrev pub invariant-loop-line : goal.invariant-loop-line
invariant-loop-line l = (i : ℕ) → i < l.line → UnlearntAt l.log.instances l.log.log i None
