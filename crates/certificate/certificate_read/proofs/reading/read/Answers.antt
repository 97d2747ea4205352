use Rattle.std.proofs.Common.{◌++◌, flat_map, length, refl, ◌∙◌, codes, decimal}
use Rattle.certificate_text.specs.CertificateText.{Text, ◌␣◌, ended, line_text, plan_text, node_count}
use Rattle.certificate_text.proofs.WholeTexts.{written_within}
use Rattle.certificate_read.proofs.WordCalls.{fails}
use Rattle.certificate_read.proofs.TextEnds.{certificate_read, rest_refused}
use Rattle.std.proofs.Common.{Result}
use Rattle.std.specs.Prelude.{IfErr}
use Rattle.values.specs.declared.fault.Fault.{Fault}
use Rattle.certificate.specs.declared.certificate.Certificate.{Certificate}
use Rattle.certificate_text.proofs.Exits.{holds_of_fault}
use Rattle.certificate_text.specs.declared.fault.TextRefusal.{TextRefusal}
use Rattle.certificate_read.specs.TextCalls.{RefusesText}
use Rattle.certificate_read.proofs.reading.read.Goals as goal

pub returns-in_err-plan-clause-complete : goal.returns-in_err-plan-clause-complete
returns-in_err-plan-clause-complete c = λ whole h e.
    let within = written_within whole c.args.bytes.now e in
    let nodes : Text = ended (codes "plan" ␣ decimal (node_count whole.plan)) ++ (plan_text whole.plan ++ ended (codes "end")) in
    let lines : Text = ended (codes "lines" ␣ decimal (length whole.lines)) ++ (flat_map line_text whole.lines ++ nodes) in
    let first = c.in_ok-expect.ensures.complete lines refl (c.of-text.ensures.left ∙ within.3) in
    let read = c.in_ok-lines.ensures.complete whole.lines nodes h.0 within.0 first.1 in
    fails _ c.from_residual-in_err-plan.result c.in_err-plan.field-0.0 c.from_residual-in_err-plan.ensures.1 (c.in_err-plan.ensures.complete whole.plan (h.1, within.2) within.1 read.1)

pub returns-clause-complete : goal.returns-clause-complete
returns-clause-complete c = λ whole h e.
    let within = written_within whole c.args.bytes.now e in
    let nodes : Text = ended (codes "plan" ␣ decimal (node_count whole.plan)) ++ (plan_text whole.plan ++ ended (codes "end")) in
    let lines : Text = ended (codes "lines" ␣ decimal (length whole.lines)) ++ (flat_map line_text whole.lines ++ nodes) in
    let first = c.in_ok-expect.ensures.complete lines refl (c.of-text.ensures.left ∙ within.3) in
    let read = c.in_ok-lines.ensures.complete whole.lines nodes h.0 within.0 first.1 in
    λ i. record { lines = read.0 i; plan = c.in_ok-plan.ensures.complete whole.plan (h.1, within.2) within.1 read.1 i }

pub returns-clause-sound : goal.returns-clause-sound
returns-clause-sound c = certificate_read c.args.bytes.now c.of-text.result c.of-text.ensures.left c.of-text.ensures.number c.expect.new.self c.in_ok-expect.ensures.exact c.derivation.new.text c.in_ok-lines.lines c.in_ok-lines.ensures.exact c.in_ok-plan.plan c.in_ok-plan.ensures.exact

pub returns-clause-readable : goal.returns-clause-readable
returns-clause-readable c = (c.in_ok-lines.ensures.exact.1.0, c.in_ok-plan.ensures.exact.2.0)

pub returns-in_err-plan-clause-refused : goal.returns-in_err-plan-clause-refused
returns-in_err-plan-clause-refused c =
    holds_of_fault (λ (r : Result Certificate (Fault TextRefusal)). IfErr r (λ fault. RefusesText c.args.bytes.now fault)) c.from_residual-in_err-plan.result c.in_err-plan.field-0.0 c.from_residual-in_err-plan.ensures.1
    (rest_refused c.args.bytes.now c.of-text.result c.of-text.ensures.left c.of-text.ensures.number c.expect.new.self c.in_ok-expect.ensures.exact c.derivation.new.text c.in_ok-lines.lines c.in_ok-lines.ensures.exact c.in_err-plan.field-0.0 c.in_err-plan.ensures.exact)
