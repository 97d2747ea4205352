use Rattle.std.proofs.Common.{◌≤◌, length, max}
use Rattle.lean_logs.specs.Growth.{IsServed}
use Rattle.planner.specs.Searched.{framed}
use Rattle.planner.proofs.searching.best_by_doubling.Given as goal

abbrev pub invariant-loop : goal.invariant-loop
invariant-loop l = IsServed (framed l.planning.query.now) l.memo.log × (length l.memo.log.log ≤ max l.most (length l.fn.memo.log.log))
