use Rattle.std.proofs.Common.{◌≡◌}
use Rattle.explore.proofs.Along.{IsGrown}
use Rattle.explore.proofs.learning.pass.Given as goal

abbrev pub invariant-loop-line : goal.invariant-loop-line
invariant-loop-line l = IsGrown l.fn.memo.limit l.fn.memo.log l.memo.log × (l.memo.limit ≡ l.fn.memo.limit)
