use Rattle.std.proofs.Common.{◌≡◌, ◌-◌, length}
use Rattle.explore.proofs.Along.{IsFilling}
use Rattle.explore.proofs.exploring.explore.Given as goal

abbrev pub invariant-adding : goal.invariant-adding
invariant-adding l = IsFilling l.fn.memo.limit l.fn.memo.log l.memo.log × (l.memo.limit ≡ l.fn.memo.limit)

-- so many lines may still be added
abbrev pub decreases-adding : goal.decreases-adding
decreases-adding l = l.memo.limit - length l.memo.log.log
