use Rattle.std.proofs.Common.{subst, false, length, max, ◌≤◌, arith}
use Rattle.query.specs.declared.query.Query.{Query}
use Rattle.frame.specs.Frames.{query_frame}
use Rattle.logs.specs.Logged.{Logged}
use Rattle.lean_logs.proofs.Serving.{served_along}
use Rattle.planner.specs.Searched.{IsBest, framed}
use Rattle.planner.proofs.ChosenPlans.{searched}
use Rattle.planner.proofs.QueryLogs.{served_lean, served_log}
use Rattle.planner.proofs.searching.searched_while_worthwhile.Goals as goal

pub best_by_doubling-requires-clause-begun : goal.best_by_doubling-requires-clause-begun
best_by_doubling-requires-clause-begun c = served_along _ (framed c.args.planning.query.now) _ _ c.requires.served c.in_ok-memo.ensures.lean

pub returns-then-most-len-clause-searched : goal.returns-then-most-len-clause-searched
returns-then-most-len-clause-searched c =
    let q : Query = c.args.planning.query.now in
    let S = c.args.planning.statistics.now in
    searched S q c.args.planning.limit c.args.log c.into_log.result (served_log q _ c.requires.served) c.requires.within (served_lean q _ c.requires.served) c.into_log.ensures c.in_ok-best.best
    (subst (λ (l : Logged). IsBest S q l.log c.in_ok-best.best) c.log.ensures c.in_ok-best.ensures) false (λ never. cc)

pub returns-clause-searched : goal.returns-clause-searched
returns-clause-searched c =
    let q : Query = c.args.planning.query.now in
    let S = c.args.planning.statistics.now in
    let log = c.best_by_doubling.new.memo.log in
    let first = c.in_ok-memo.ensures.lean.within in
    let within : length log.log ≤ max c.args.planning.limit (length (query_frame q)) = omega (arith, first, c.in_ok-best-2.ensures.within, c.worthwhile-most.ensures, c.requires.within) in
    searched S q c.args.planning.limit log c.into_log-log.result (served_log q _ c.in_ok-best-2.ensures.served) within (served_lean q _ c.in_ok-best-2.ensures.served) c.into_log-log.ensures c.in_ok-best-2.best
    c.in_ok-best-2.ensures.best false (λ never. cc)
