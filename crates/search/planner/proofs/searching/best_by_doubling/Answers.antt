use Rattle.std.proofs.Common.{ap, sym, ◌∙◌, subst, length, max, ◌≤◌, ◌≡◌, arith}
use Rattle.logs.specs.Logged.{Logged}
use Rattle.memo.specs.declared.lines.Memo.{Memo}
use Rattle.lean_logs.specs.Growth.{IsServed}
use Rattle.lean_logs.proofs.Serving.{served_along}
use Rattle.planner.specs.Searched.{IsLogOf, framed}
use Rattle.planner.proofs.QueryLogs.{served_log}
use Rattle.planner.proofs.searching.best_by_doubling.Goals as goal
use Rattle.planner.proofs.searching.best_by_doubling.Goals.{else-loop-test, then-loop-test+then-not-double}

pub cheapest-requires-clause-log : goal.cheapest-requires-clause-log
cheapest-requires-clause-log c =
    let q = c.args.planning.query.now in
    subst (IsLogOf q) (sym c.log.ensures) (served_log q _ (served_along _ (framed q) _ _ (subst (IsServed (framed q)) (sym c.double.ensures.log) c.loop.invariant.0) c.in_ok-apply_all.ensures.lean))

pub cheapest-requires-2-clause-log : goal.cheapest-requires-2-clause-log
cheapest-requires-2-clause-log c =
    let q = c.args.planning.query.now in
    let Served = λ (m : Memo). IsServed (framed q) m.log in
    subst (IsLogOf q) (sym c.log-2.ensures) (served_log q _ (elim c.loop-test.branch [
      | else-loop-test w ↦ subst Served (sym w.memo-is) c.loop.invariant.0
      | then-loop-test+then-not-double w ↦ subst Served (sym w.memo-is) (subst (IsServed (framed q)) (sym w.double.ensures.log) c.loop.invariant.0)
    ]))

pub returns-then-found-known-clause-served : goal.returns-then-found-known-clause-served
returns-then-found-known-clause-served c =
    let q = c.args.planning.query.now in
    served_along _ (framed q) _ _ (subst (IsServed (framed q)) (sym c.double.ensures.log) c.loop.invariant.0) c.in_ok-apply_all.ensures.lean

pub loop-preserved : goal.loop-preserved
loop-preserved c =
    let q = c.args.planning.query.now in
    let grown = served_along _ (framed q) _ _ (subst (IsServed (framed q)) (sym c.double.ensures.log) c.loop.invariant.0) c.in_ok-apply_all.ensures.lean in
    let count : length c.double.new.memo.log.log ≡ length c.loop.memo.log.log = ap (λ (l : Logged). length l.log) c.double.ensures.log in
    let within = c.in_ok-apply_all.ensures.lean.within in
    (grown, omega (arith, within, c.double.ensures.limit, count, c.loop.invariant.1))
