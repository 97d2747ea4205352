use Rattle.std.proofs.Common.{◌≡◌, ap, sym, ◌∙◌, subst, Result, Err}
use Rattle.values.specs.Faults.{Fails}
use Rattle.derivation.specs.declared.line.Line.{Line}
use Rattle.derivation.specs.declared.line.LineReason.{LineReason}
use Rattle.derivation.specs.Replay.{stands}
use Rattle.logs.specs.Logged.{Logged}
use Rattle.planner.proofs.BegunLogs.{not_refused}
use Rattle.planner.proofs.query_logs.log_of.Goals as goal

pub returns-in-Err-Refused-clause-none : goal.returns-in-Err-Refused-clause-none
returns-in-Err-Refused-clause-none c =
    let L : Logged = c.loop-line.log in
    let v : Line → Result Line LineReason = λ l. stands L.instances L.own L.log l in
    let refused : v c.in_ok-copy.field-0 ≡ Err c.in-Err-Refused.field-0-0 = subst (λ f. Fails f (v c.in_ok-copy.field-0)) c.in-Err-Refused.field-0-is c.in-Err-Refused.ensures.verdict in
    λ _. not_refused c.args.instances.now c.args.own.now c.args.lines.now c.loop-line.line-index c.line-item.result L c.in-Err-Refused.field-0-0 c.loop-line-test.true c.line-item.is c.loop-line.invariant (ap v (sym c.in_ok-copy.ensures) ∙ refused)
