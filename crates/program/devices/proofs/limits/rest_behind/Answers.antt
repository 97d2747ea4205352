use Rattle.std.proofs.Common.{◌++◌, [], length, sym, ap, ◌∙◌, subst, below_more}
use Rattle.std.proofs.lemmas.Iterator.Splits.{YieldsList-from_lines}
use Rattle.std.proofs.lemmas.Iterator.Consumers.{YieldsList-turn, YieldsList-end}
use Rattle.std.proofs.lemmas.List.{get_or_default, length_push}
use Rattle.std.specs.Str.Lines.{lines}
use Rattle.devices.specs.Limits.{NoneBefore}
use Rattle.devices.proofs.limits.rest_behind.Goals as goal

pub returns-in-Some-strip_prefix : goal.returns-in-Some-strip_prefix
returns-in-Some-strip_prefix c =
    let t = YieldsList-turn (YieldsList-from_lines c.args.text.now cc) c.loop-line.yielded _ c.loop-line.yielded_by _ _ c.in-Some.line c.in-Some.is c.next.ensures.steps in
    let h = c.in-Some-strip_prefix.ensures.cases in
    let line = get_or_default _ _ [] c.in-Some.line.now t.0 ∙ sym t.1 in
    (length c.loop-line.yielded, t.0, line ∙ h.1.1 ∙ ap (λ l. c.args.words.now ++ l) (sym h.2), c.loop-line.invariant)

pub loop-line-preserved : goal.loop-line-preserved
loop-line-preserved c =
    let t = YieldsList-turn (YieldsList-from_lines c.args.text.now cc) c.loop-line.yielded _ c.loop-line.yielded_by _ _ c.in-Some.line c.in-Some.is c.next.ensures.steps in
    let line = get_or_default _ _ [] c.in-Some.line.now t.0 ∙ sym t.1 in
    subst (NoneBefore c.args.words.now (lines c.args.text.now)) (sym (length_push c.loop-line.yielded c.in-Some.line))
    (below_more _ _ c.loop-line.invariant (λ rest same. c.in_default.ensures.cases rest (sym line ∙ same)))

pub returns : goal.returns
returns c =
    let t = YieldsList-end (YieldsList-from_lines c.args.text.now cc) c.loop-line.yielded _ c.loop-line.yielded_by _ _ c.in-None.is c.next.ensures.steps in
    subst (NoneBefore c.args.words.now (lines c.args.text.now)) t.1 c.loop-line.invariant
