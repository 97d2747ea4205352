use Rattle.std.proofs.Common.{inr, refl}
use Rattle.certificate_read.proofs.text_lines.TextLines.line.Goals as goal

pub returns-in-Err-clause-exact : goal.returns-in-Err-clause-exact
returns-in-Err-clause-exact c =
    let passed = c.in_ok-bytes.ensures.exact in
    rw c.refused.ensures (passed.0.1, inr (c.in_ok-bytes.field-0.now, c.bytes.new.self.left.now, passed.0.0, passed.1, (c.in-Err.ensures.cases.0, refl)))
