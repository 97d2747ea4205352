use Rattle.std.proofs.Common.{◌∙◌}
use Rattle.planner.proofs.QueryLogs.{frame_within, judged_behind, judged_frame}
use Rattle.planner.proofs.query_logs.judged.Goals as goal

pub returns-then-branch-clause-served : goal.returns-then-branch-clause-served
returns-then-branch-clause-served c = judged_behind c.args.planning.query.now _ _ (c.in_ok-served.ensures ∙ c.in_ok-frame.ensures) (c.in_ok-append_served.ensures.served c.if-branch.true)

pub returns-clause-served : goal.returns-clause-served
returns-clause-served c = judged_frame c.args.planning.query.now _ (c.in_ok-log.ensures ∙ c.in_ok-frame-2.ensures)

pub returns-clause-within : goal.returns-clause-within
returns-clause-within c = frame_within c.args.planning.query.now c.args.planning.limit _ (c.in_ok-log.ensures ∙ c.in_ok-frame-2.ensures)
