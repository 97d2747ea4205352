use Rattle.std.proofs.Common.{refl, ap, sym, ◌∙◌, length}
use Rattle.std.proofs.lemmas.Option.{slice_get_read, slice_get_past}
use Rattle.derivation.specs.Logs.{is_founding}
use Rattle.logs.proofs.LogLines.{founds_at}
use Rattle.logs.proofs.lookups.founds.Goals as goal

pub returns-in-Some : goal.returns-in-Some
returns-in-Some c =
    let lines = c.args.lines.now in
    let line = c.in-Some.line.now in
    c.is_founding.ensures ∙ ap is_founding (sym (slice_get_read lines (length lines) c.args.class line refl c.in-Some.ensures.lookup.3.0 (c.in-Some.ensures.lookup.3.1 line))) ∙ sym (founds_at lines c.args.class)

pub returns-in-None : goal.returns-in-None
returns-in-None c = ap is_founding (sym (slice_get_past c.args.lines.now c.args.class c.in-None.ensures.lookup.3)) ∙ sym (founds_at c.args.lines.now c.args.class)
