use Rattle.std.proofs.Common.{◌∙◌, ap, Ok, Err}
use Rattle.certificate_text.specs.CertificateText.{node_words}
use Rattle.certificate_read.proofs.NodeTexts.{node_line, node_back}
use Rattle.certificate_read.specs.TextCalls.{text_fault_of}
use Rattle.certificate_read.proofs.WordCalls.{fails}
use Rattle.std.proofs.Common.{subst}
use Rattle.certificate_read.specs.TextCalls.{PassesLine}
use Rattle.certificate_read.proofs.ReadBack.{node_read_back}
use Rattle.certificate_read.proofs.reading.next_node.Goals as goal

pub returns-in_err-line-clause-complete : goal.returns-in_err-line-clause-complete
returns-in_err-line-clause-complete c = λ n inputs rest h within e. fails _ c.from_residual.result c.in_err-line.field-0.0 c.from_residual.ensures.1 (c.in_err-line.ensures.complete (node_words n inputs) rest (node_line n inputs h) e)

pub returns-in-Ok-clause-complete : goal.returns-in-Ok-clause-complete
returns-in-Ok-clause-complete c = λ n inputs rest h within e.
    let line = c.in_ok-line.ensures.complete (node_words n inputs) rest (node_line n inputs h) e in
    let read = node_back n inputs c.args.is_within c.in_ok-line.line.now (Ok c.in-Ok.read) h within line.0 c.in-Ok.ensures in
    (read.0, read.1, line.1)

pub returns-in-Err-clause-complete : goal.returns-in-Err-clause-complete
returns-in-Err-clause-complete c = λ n inputs rest h within e.
    let line = c.in_ok-line.ensures.complete (node_words n inputs) rest (node_line n inputs h) e in
    c.fault.ensures ∙ ap (λ fault. text_fault_of fault c.line.new.self.number) (node_back n inputs c.args.is_within c.in_ok-line.line.now (Err c.in-Err.fault) h within line.0 c.in-Err.ensures)

pub returns-in-Ok-clause-exact : goal.returns-in-Ok-clause-exact
returns-in-Ok-clause-exact c =
    let read = c.in-Ok.ensures in
    let back = node_read_back c.in_ok-line.line.now c.in-Ok.read read.0 read.1 read.2.1 read.3 read.4 in
    (subst (λ line. PassesLine line c.args.text.now c.line.new.self) back.0 c.in_ok-line.ensures.exact.0, back.1, read.2.0)
