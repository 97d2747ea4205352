use Rattle.std.proofs.Common.{◌≡◌, sym, ◌∙◌, subst, Ok, Err, true, false}
use Rattle.values.specs.Faults.{Fails}
use Rattle.derivation.specs.Replay.{stands}
use Rattle.logs.specs.Logged.{Logged}
use Rattle.lean_logs.proofs.lean_log.LeanLog.push.Goals as goal
use Rattle.lean_logs.proofs.lean_log.LeanLog.push.Goals.{in-Ok, in-Err-Refused, in-Err-Memory}

pub returns-clause-refused : goal.returns-clause-refused
returns-clause-refused c = λ left may says.
    let log : Logged = c.self.inside.log in
    let stands_ : stands log.instances log.own log.log c.args.line ≡ Ok c.args.line = subst (λ (l : Logged). stands l.instances l.own l.log c.args.line ≡ Ok c.args.line) (sym c.self.view_is) may in
    elim c.match-push.branch [
      | in-Ok w ↦ let never : Ok true ≡ Ok false = sym w.result-is ∙ left in cc
      | in-Err-Refused w ↦
          let refused : stands log.instances log.own log.log c.args.line ≡ Err w.in-Err-Refused.field-0-0 = subst (λ f. Fails f (stands log.instances log.own log.log c.args.line)) w.in-Err-Refused.field-0-is w.in-Err-Refused.ensures.verdict in
          let never : Ok c.args.line ≡ Err w.in-Err-Refused.field-0-0 = sym stands_ ∙ refused in cc
      | in-Err-Memory w ↦ let never : Err _ ≡ Ok false = sym w.result-is ∙ left in cc
    ]
