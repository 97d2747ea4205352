use Rattle.std.proofs.Common.{refl, ap, sym, ◌∙◌, length}
use Rattle.std.proofs.lemmas.Option.{slice_get_read, slice_get_past}
use Rattle.derivation.specs.Logs.{as_member}
use Rattle.logs.proofs.LogLines.{member_at}
use Rattle.logs.proofs.lookups.member.Goals as goal

pub returns-in-Some : goal.returns-in-Some
returns-in-Some c =
    let lines = c.args.lines.now in
    let line = c.in-Some.found.now in
    c.as_member.ensures ∙ ap (as_member c.args.line) (sym (slice_get_read lines (length lines) c.args.line line refl c.in-Some.ensures.lookup.3.0 (c.in-Some.ensures.lookup.3.1 line))) ∙ sym (member_at lines c.args.line)

pub returns-in-None : goal.returns-in-None
returns-in-None c = ap (as_member c.args.line) (sym (slice_get_past c.args.lines.now c.args.line c.in-None.ensures.lookup.3)) ∙ sym (member_at c.args.lines.now c.args.line)
