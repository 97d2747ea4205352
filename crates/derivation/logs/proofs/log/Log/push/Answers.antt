use Rattle.std.proofs.Common.{◌≡◌, ap, sym, ◌∙◌, ◌++◌, ◌∷◌, [], List, subst, reverse, Result, Ok, Err, OnOk}
use Rattle.std.proofs.lemmas.List.{reverse-append}
use Rattle.values.specs.Faults.{Gives}
use Rattle.values.specs.declared.fault.Fault.{Fault}
use Rattle.derivation.specs.declared.line.Line.{Line}
use Rattle.derivation.specs.declared.line.LineReason.{LineReason}
use Rattle.derivation.specs.Replay.{Replays, stands}
use Rattle.logs.specs.Knowledge.{IsKnown, NamesEarlier}
use Rattle.logs.specs.Logged.{Logged}
use Rattle.logs.specs.Members.{AreAdditions}
use Rattle.logs.proofs.ClosedLogs.{closed}
use Rattle.logs.proofs.NamedLines.{names-earlier}
use Rattle.logs.proofs.log.Log.push.Goals as goal

-- what a verdict says where it lets a line stand
where-ok : (line : Line) (verdict : Result (Unit {0}) (Fault LineReason)) (v : Result Line LineReason) (P : Type 0) → Gives (λ (u : Unit {0}). line) verdict v → (v ≡ Ok line → P) → OnOk verdict P
where-ok line (Ok u) v P gives then = then gives
where-ok line (Err e) v P gives then = tt

-- the same of the log's parts
stands-inside : (whole inside : Logged) (line : Line) → inside ≡ whole → stands whole.instances whole.own whole.log line ≡ Ok line → stands inside.instances inside.own inside.log line ≡ Ok line
stands-inside whole inside line is stands-there = subst (λ (l : Logged). stands l.instances l.own l.log line ≡ Ok line) (sym is) stands-there

pub note-requires-clause-closed : goal.note-requires-clause-closed
note-requires-clause-closed c =
    let inside = c.self.inside in
    closed inside.instances.now inside.own.now (reverse inside.lines.items) c.self.invariant.0

pub note-requires-clause-names : goal.note-requires-clause-names
note-requires-clause-names c =
    let inside = c.self.inside in
    let line : Line = c.args.line in
    where-ok line c.judge-verdict.result _ (NamesEarlier (reverse inside.lines.items) line) c.judge-verdict.ensures
    (λ is. names-earlier inside.instances.now inside.own.now (reverse inside.lines.items) c.self.invariant.0 line (stands-inside c.args.self.now _ line c.self.view_is is))

pub invariant_of-self-2 : goal.invariant_of-self-2
invariant_of-self-2 c =
    let inside = c.self.inside in
    let line : Line = c.args.line in
    let is = stands-inside c.args.self.now _ line c.self.view_is (c.in_ok-note.ensures.verdict _ c.judge-verdict.ensures) in
    let next : reverse c.push_reserved.new.self.items ≡ line ∷ reverse inside.lines.items =
    ap reverse (c.push_reserved.ensures.items ∙ ap (λ (lines : List Line). lines ++ line ∷ []) c.in_ok-note.ensures.lines) ∙ reverse-append inside.lines.items (line ∷ []) in
    subst (λ E. Replays inside.instances.now inside.own.now E × IsKnown inside.instances.now E c.note.new.known × AreAdditions E c.note.new.additions) (sym next) ((is, c.self.invariant.0), c.in_ok-note.ensures.known, c.in_ok-note.ensures.added)

pub returns-clause-verdict : goal.returns-clause-verdict
returns-clause-verdict c = c.in_ok-note.ensures.verdict _ c.judge-verdict.ensures
