use Rattle.std.proofs.Common.{◌≡◌, refl, subst}
use Rattle.values.specs.Faults.{Gives}
use Rattle.props.specs.Knowledge.{known}
use Rattle.derivation.specs.declared.line.Line.{Line}
use Rattle.derivation.specs.Replay.{judged, stands}
use Rattle.logs.specs.Judging.{the_log}
use Rattle.logs.specs.Logged.{Logged}
use Rattle.logs.proofs.log.Log.judge.Goals as goal

pub returns : goal.returns
returns c =
    let s : Logged = c.args.self.now in
    let at = c.behind.result in
    let line : Line = c.args.line.now in
    let is : judged at.instances.now at.own.now (known at.classes) (the_log at) line ≡ stands s.instances s.own s.log line =
    rw (c.behind.ensures.given.0, c.behind.ensures.given.1, c.behind.ensures.log, c.behind.ensures.known) refl in
    subst (λ r. Gives (λ (u : Unit {0}). line) c.judge.result r) is c.judge.ensures
