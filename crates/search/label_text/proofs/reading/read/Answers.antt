use Rattle.std.proofs.Common.{codes, refl, Result}
use Rattle.std.specs.Prelude.{IfErr}
use Rattle.values.specs.declared.fault.Fault.{Fault}
use Rattle.certificate_text.proofs.Exits.{holds_of_fault}
use Rattle.certificate_text.specs.declared.fault.TextRefusal.{TextRefusal}
use Rattle.certificate_text.specs.CertificateText.{ended}
use Rattle.certificate_read.proofs.WordCalls.{fails}
use Rattle.label_text.specs.LabelText.{labels_text}
use Rattle.label_text.specs.LabelReading.{RefusesLeast}
use Rattle.label_text.specs.declared.reading.LabelledCertificate.{LabelledCertificate}
use Rattle.label_text.proofs.LeastFaults.{end_unread, front_unread, labels_unread}
use Rattle.label_text.proofs.LeastTexts.{labels_end, whole_parts, whole_read}
use Rattle.label_text.proofs.reading.read.Goals as goal

pub returns-in_err-front-clause-complete : goal.returns-in_err-front-clause-complete
returns-in_err-front-clause-complete c = λ whole ls h each e.
    let parts = whole_parts whole ls c.args.bytes.now e in
    fails _ c.from_residual.result c.in_err-front.field-0.0 c.from_residual.ensures.1 (c.in_err-front.ensures.complete whole (labels_text ls) h parts.0)

pub returns-in_err-labels-clause-complete : goal.returns-in_err-labels-clause-complete
returns-in_err-labels-clause-complete c = λ whole ls h each e.
    let parts = whole_parts whole ls c.args.bytes.now e in
    let front = c.in_ok-front.ensures.complete whole (labels_text ls) h parts.0 in
    fails _ c.from_residual-in_err-labels.result c.in_err-labels.field-0.0 c.from_residual-in_err-labels.ensures.1 (c.in_err-labels.ensures.complete ls (ended (codes "end")) each parts.1 front.1)

pub returns-in_err-finish-clause-complete : goal.returns-in_err-finish-clause-complete
returns-in_err-finish-clause-complete c = λ whole ls h each e.
    let parts = whole_parts whole ls c.args.bytes.now e in
    let front = c.in_ok-front.ensures.complete whole (labels_text ls) h parts.0 in
    let labels = c.in_ok-labels.ensures.complete ls (ended (codes "end")) each parts.1 front.1 in
    fails _ c.from_residual-in_err-finish.result c.in_err-finish.field-0.0 c.from_residual-in_err-finish.ensures.1 (c.in_err-finish.ensures.complete labels.1)

pub returns-clause-complete : goal.returns-clause-complete
returns-clause-complete c = λ whole ls h each e.
    let parts = whole_parts whole ls c.args.bytes.now e in
    let front = c.in_ok-front.ensures.complete whole (labels_text ls) h parts.0 in
    (front.0, (c.in_ok-labels.ensures.complete ls (ended (codes "end")) each parts.1 front.1).0)

pub returns-clause-sound : goal.returns-clause-sound
returns-clause-sound c =
    let passed = c.in_ok-labels.ensures.exact in
    whole_read c.in_ok-front.front.certificate c.in_ok-labels.labels c.in_ok-front.front.rest.now c.args.bytes.now c.in_ok-front.ensures.sound (labels_end (record { left = c.in_ok-front.front.rest; number = c.in_ok-front.front.lines }) c.labels.new.text c.in_ok-labels.labels passed c.in_ok-finish.ensures.exact) passed.1.1

pub returns-in_err-front-clause-refused : goal.returns-in_err-front-clause-refused
returns-in_err-front-clause-refused c =
    holds_of_fault (λ (r : Result LabelledCertificate (Fault TextRefusal)). IfErr r (λ fault. RefusesLeast c.args.bytes.now fault)) c.from_residual.result c.in_err-front.field-0.0 c.from_residual.ensures.1
    (front_unread c.args.bytes.now c.in_err-front.field-0.0 c.in_err-front.ensures.refused c.in_err-front.ensures.complete)

pub returns-in_err-labels-clause-refused : goal.returns-in_err-labels-clause-refused
returns-in_err-labels-clause-refused c =
    let front = c.in_ok-front.front in
    holds_of_fault (λ (r : Result LabelledCertificate (Fault TextRefusal)). IfErr r (λ fault. RefusesLeast c.args.bytes.now fault)) c.from_residual-in_err-labels.result c.in_err-labels.field-0.0 c.from_residual-in_err-labels.ensures.1
    (labels_unread front.certificate front.rest.now c.args.bytes.now c.in_ok-front.ensures.sound (record { left = front.rest; number = front.lines }) refl c.in_ok-front.ensures.lines c.in_err-labels.field-0.0 c.in_err-labels.ensures.exact)

pub returns-in_err-finish-clause-refused : goal.returns-in_err-finish-clause-refused
returns-in_err-finish-clause-refused c =
    let front = c.in_ok-front.front in
    holds_of_fault (λ (r : Result LabelledCertificate (Fault TextRefusal)). IfErr r (λ fault. RefusesLeast c.args.bytes.now fault)) c.from_residual-in_err-finish.result c.in_err-finish.field-0.0 c.from_residual-in_err-finish.ensures.1
    (end_unread front.certificate front.rest.now c.args.bytes.now c.in_ok-front.ensures.sound (record { left = front.rest; number = front.lines }) refl c.in_ok-front.ensures.lines c.in_ok-labels.labels c.labels.new.text c.in_ok-labels.ensures.exact c.in_err-finish.field-0.0 c.in_err-finish.ensures.exact)
