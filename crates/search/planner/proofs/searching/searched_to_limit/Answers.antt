use Rattle.std.proofs.Common.{◌≡◌, ap, sym, subst, length, arith}
use Rattle.query.specs.declared.query.Query.{Query}
use Rattle.logs.specs.Logged.{Logged}
use Rattle.lean_logs.proofs.Serving.{served_along, served_fills}
use Rattle.planner.specs.Searched.{IsBest, IsLogOf, framed}
use Rattle.planner.proofs.ChosenPlans.{searched}
use Rattle.planner.proofs.QueryLogs.{lean_behind, served_log}
use Rattle.planner.proofs.RootGoals.{log_grows}
use Rattle.planner.proofs.searching.searched_to_limit.Goals as goal

pub cheapest-requires-clause-log : goal.cheapest-requires-clause-log
cheapest-requires-clause-log c =
    let q = c.args.planning.query.now in
    let served = served_along _ (framed q) _ _ c.requires.served c.in_ok-memo.ensures.lean in
    subst (IsLogOf q) (sym c.log.ensures) (log_grows q _ _ (served_log q _ served) c.in_ok-is_complete.ensures.fills.grows)

pub returns-clause-searched : goal.returns-clause-searched
returns-clause-searched c =
    let q : Query = c.args.planning.query.now in
    let served = served_along _ (framed q) _ _ c.requires.served c.in_ok-memo.ensures.lean in
    let fills = c.in_ok-is_complete.ensures.fills in
    let first = c.in_ok-memo.ensures.lean.within in
    let within = fills.within in
    searched c.args.planning.statistics.now q c.args.planning.limit c.explored_to_limit.new.memo.log c.into_log-log.result (log_grows q _ _ (served_log q _ served) fills.grows)
    (omega (arith, within, c.in_ok-memo.ensures.limit, first, c.requires.within))
    (lean_behind q _ (served_fills _ (framed q) _ _ served fills))
    c.into_log-log.ensures c.in_ok-best.best
    (subst (λ (l : Logged). IsBest c.args.planning.statistics.now q l.log c.in_ok-best.best) c.log.ensures c.in_ok-best.ensures)
    c.in_ok-is_complete.is_complete c.in_ok-is_complete.ensures.closed
