use Rattle.std.proofs.Common.{◌++◌, refl, ◌∙◌, codes, Result}
use Rattle.std.specs.Prelude.{IfErr}
use Rattle.values.specs.declared.fault.Fault.{Fault}
use Rattle.certificate_text.proofs.Exits.{holds_of_fault}
use Rattle.certificate_text.proofs.WholeTexts.{written_within}
use Rattle.certificate_text.specs.declared.fault.TextRefusal.{TextRefusal}
use Rattle.certificate_text.specs.CertificateText.{ended}
use Rattle.certificate_read.specs.declared.front.Front.{Front}
use Rattle.certificate_read.specs.TextCalls.{RefusesText}
use Rattle.certificate_read.proofs.Fronts.{end_missed, front_is, front_lines, front_read, lines_to_end, plan_refused, plan_to_end}
use Rattle.certificate_read.proofs.WordCalls.{fails}
use Rattle.certificate_read.proofs.front.read_front.Goals as goal

pub returns-clause-sound : goal.returns-clause-sound
returns-clause-sound c = front_read c.args.bytes.now c.of-text.result c.of-text.ensures.left c.of-text.ensures.number c.expect.new.self c.in_ok-expect.ensures.exact c.derivation.new.text c.in_ok-lines.lines c.in_ok-lines.ensures.exact c.plan.new.text c.in_ok-plan.plan c.in_ok-plan.ensures.exact c.expect-2.new.self c.in_ok-expect-2.ensures.exact

pub returns-clause-lines : goal.returns-clause-lines
returns-clause-lines c = front_lines c.args.bytes.now c.of-text.result c.of-text.ensures.left c.of-text.ensures.number c.expect.new.self c.in_ok-expect.ensures.exact c.derivation.new.text c.in_ok-lines.lines c.in_ok-lines.ensures.exact c.plan.new.text c.in_ok-plan.plan c.in_ok-plan.ensures.exact c.expect-2.new.self c.in_ok-expect-2.ensures.exact

pub returns-clause-readable : goal.returns-clause-readable
returns-clause-readable c = (c.in_ok-lines.ensures.exact.1.0, c.in_ok-plan.ensures.exact.2.0)

pub returns-in_err-plan-clause-complete : goal.returns-in_err-plan-clause-complete
returns-in_err-plan-clause-complete c = λ whole rest h is.
    let within = written_within whole is.0 is.1 in
    let first = c.in_ok-expect.ensures.complete (lines_to_end whole rest) refl (c.of-text.ensures.left ∙ front_is whole rest c.args.bytes.now is) in
    let read = c.in_ok-lines.ensures.complete whole.lines (plan_to_end whole rest) h.0 within.0 first.1 in
    fails _ c.from_residual-in_err-plan.result c.in_err-plan.field-0.0 c.from_residual-in_err-plan.ensures.1 (c.in_err-plan.ensures.complete whole.plan (ended (codes "end") ++ rest) (h.1, within.2) within.1 read.1)

pub returns-in_err-expect-2-clause-complete : goal.returns-in_err-expect-2-clause-complete
returns-in_err-expect-2-clause-complete c = λ whole rest h is.
    let within = written_within whole is.0 is.1 in
    let first = c.in_ok-expect.ensures.complete (lines_to_end whole rest) refl (c.of-text.ensures.left ∙ front_is whole rest c.args.bytes.now is) in
    let read = c.in_ok-lines.ensures.complete whole.lines (plan_to_end whole rest) h.0 within.0 first.1 in
    let plan = c.in_ok-plan.ensures.complete whole.plan (ended (codes "end") ++ rest) (h.1, within.2) within.1 read.1 in
    fails _ c.from_residual-in_err-expect-2.result c.in_err-expect-2.field-0.0 c.from_residual-in_err-expect-2.ensures.1 (c.in_err-expect-2.ensures.complete rest refl plan.1)

pub returns-clause-complete : goal.returns-clause-complete
returns-clause-complete c = λ whole rest h is.
    let within = written_within whole is.0 is.1 in
    let first = c.in_ok-expect.ensures.complete (lines_to_end whole rest) refl (c.of-text.ensures.left ∙ front_is whole rest c.args.bytes.now is) in
    let read = c.in_ok-lines.ensures.complete whole.lines (plan_to_end whole rest) h.0 within.0 first.1 in
    let plan = c.in_ok-plan.ensures.complete whole.plan (ended (codes "end") ++ rest) (h.1, within.2) within.1 read.1 in
    ((λ i. record { lines = read.0 i; plan = plan.0 i }), (c.in_ok-expect-2.ensures.complete rest refl plan.1).1)

pub returns-in_err-plan-clause-refused : goal.returns-in_err-plan-clause-refused
returns-in_err-plan-clause-refused c =
    holds_of_fault (λ (r : Result Front (Fault TextRefusal)). IfErr r (λ fault. RefusesText c.args.bytes.now fault)) c.from_residual-in_err-plan.result c.in_err-plan.field-0.0 c.from_residual-in_err-plan.ensures.1
    (plan_refused c.args.bytes.now c.of-text.result c.of-text.ensures.left c.of-text.ensures.number c.expect.new.self c.in_ok-expect.ensures.exact c.derivation.new.text c.in_ok-lines.lines c.in_ok-lines.ensures.exact c.in_err-plan.field-0.0 c.in_err-plan.ensures.exact)

pub returns-in_err-expect-2-clause-refused : goal.returns-in_err-expect-2-clause-refused
returns-in_err-expect-2-clause-refused c =
    holds_of_fault (λ (r : Result Front (Fault TextRefusal)). IfErr r (λ fault. RefusesText c.args.bytes.now fault)) c.from_residual-in_err-expect-2.result c.in_err-expect-2.field-0.0 c.from_residual-in_err-expect-2.ensures.1
    (end_missed c.args.bytes.now c.of-text.result c.of-text.ensures.left c.of-text.ensures.number c.expect.new.self c.in_ok-expect.ensures.exact c.derivation.new.text c.in_ok-lines.lines c.in_ok-lines.ensures.exact c.plan.new.text c.in_ok-plan.plan c.in_ok-plan.ensures.exact c.in_err-expect-2.field-0.0 c.in_err-expect-2.ensures.exact)
