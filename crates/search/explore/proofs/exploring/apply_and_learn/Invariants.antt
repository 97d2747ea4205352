use Rattle.std.proofs.Common.{◌≡◌}
use Rattle.explore.proofs.Along.{IsGrown}
use Rattle.explore.proofs.exploring.apply_and_learn.Given as goal

abbrev pub invariant-loop : goal.invariant-loop
invariant-loop l = IsGrown l.fn.memo.limit l.fn.memo.log l.memo.log × (l.memo.limit ≡ l.fn.memo.limit)
