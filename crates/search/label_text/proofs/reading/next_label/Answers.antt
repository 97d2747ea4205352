use Rattle.std.proofs.Common.{◌∙◌, ap, subst, Ok, Err}
use Rattle.certificate_read.specs.TextCalls.{PassesLine, text_fault_of}
use Rattle.certificate_read.proofs.WordCalls.{fails}
use Rattle.label_text.specs.LabelText.{label_words}
use Rattle.label_text.proofs.LabelWords.{label_back, label_line, label_read_back}
use Rattle.label_text.proofs.reading.next_label.Goals as goal

pub returns-in_err-line-clause-complete : goal.returns-in_err-line-clause-complete
returns-in_err-line-clause-complete c = λ l rest h e. fails _ c.from_residual.result c.in_err-line.field-0.0 c.from_residual.ensures.1 (c.in_err-line.ensures.complete (label_words l) rest (label_line l h) e)

pub returns-in-Ok-clause-complete : goal.returns-in-Ok-clause-complete
returns-in-Ok-clause-complete c = λ l rest h e.
    let line = c.in_ok-line.ensures.complete (label_words l) rest (label_line l h) e in
    (label_back l c.in_ok-line.line.now (Ok c.in-Ok.read) h line.0 c.in-Ok.ensures, line.1)

pub returns-in-Err-clause-complete : goal.returns-in-Err-clause-complete
returns-in-Err-clause-complete c = λ l rest h e.
    let line = c.in_ok-line.ensures.complete (label_words l) rest (label_line l h) e in
    c.fault.ensures ∙ ap (λ fault. text_fault_of fault c.line.new.self.number) (label_back l c.in_ok-line.line.now (Err c.in-Err.fault) h line.0 c.in-Err.ensures)

pub returns-in-Ok-clause-exact : goal.returns-in-Ok-clause-exact
returns-in-Ok-clause-exact c =
    let read = c.in-Ok.ensures in
    let back = label_read_back c.in_ok-line.line.now c.in-Ok.read read.0 read.1 read.3 read.4 in
    (subst (λ line. PassesLine line c.args.text.now c.line.new.self) back.0 c.in_ok-line.ensures.exact.0, back.1)
