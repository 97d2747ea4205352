use Rattle.std.proofs.Common.{◌∙◌, ap, ◌++◌, ◌∷◌, decimal, refl}
use Rattle.certificate_text.specs.PartTexts.{is_graphic}
use Rattle.certificate_text.proofs.Lacking.{passing_lack}
use Rattle.certificate_read.proofs.TextCuts.{count_line}
use Rattle.certificate_read.specs.TextCalls.{text_fault_of}
use Rattle.certificate_read.proofs.WordCalls.{fails}
use Rattle.std.proofs.Common.{◌≡◌, subst}
use Rattle.std.specs.Prelude.{IsUtf8}
use Rattle.certificate_text.proofs.Exits.{holds_of_fault}
use Rattle.certificate_text.specs.declared.fault.TextReason.TheVariants.{OtherForm}
use Rattle.certificate_read.specs.TextCalls.{PassesCount, PassesLine}
use Rattle.certificate_read.specs.TextFaults.{IsOtherCount}
use Rattle.certificate_read.proofs.TextCounts.{count_refused, text_count}
use Rattle.certificate_read.proofs.TextSteps.{refuses_as}
use Rattle.certificate_read.proofs.reading.count.Goals as goal

pub returns-in_err-line-clause-complete : goal.returns-in_err-line-clause-complete
returns-in_err-line-clause-complete c = λ n rest le short word e.
    fails _ c.from_residual.result c.in_err-line.field-0.0 c.from_residual.ensures.1 (c.in_err-line.ensures.complete (c.args.word.now ++ (32 ∷ decimal n)) rest (count_line c.args.word.now n word short) e)

pub returns-in-Ok-clause-complete : goal.returns-in-Ok-clause-complete
returns-in-Ok-clause-complete c = λ n rest le short word e.
    let line = c.in_ok-line.ensures.complete (c.args.word.now ++ (32 ∷ decimal n)) rest (count_line c.args.word.now n word short) e in
    (c.in-Ok.ensures.complete n le short (passing_lack is_graphic 32 c.args.word.now refl word) line.0, line.1)

pub returns-in-Err-clause-complete : goal.returns-in-Err-clause-complete
returns-in-Err-clause-complete c = λ n rest le short word e.
    let line = c.in_ok-line.ensures.complete (c.args.word.now ++ (32 ∷ decimal n)) rest (count_line c.args.word.now n word short) e in
    c.fault.ensures ∙ ap (λ fault. text_fault_of fault c.line.new.self.number) (c.in-Err.ensures.complete n le short (passing_lack is_graphic 32 c.args.word.now refl word) line.0)

pub returns-in_err-line-clause-exact : goal.returns-in_err-line-clause-exact
returns-in_err-line-clause-exact c = λ short word.
    holds_of_fault (PassesCount c.args.word.now c.args.most c.args.text.now c.line.new.self) c.from_residual.result c.in_err-line.field-0.0 c.from_residual.ensures.1
    (refuses_as (λ line reason. (IsUtf8 line → ⊥) × (reason ≡ OtherForm)) (IsOtherCount c.args.word.now 0 c.args.most) c.args.text.now c.in_err-line.field-0.0 (text_count c.args.word.now c.args.most word) c.in_err-line.ensures.exact)

pub returns-in-Ok-clause-exact : goal.returns-in-Ok-clause-exact
returns-in-Ok-clause-exact c = λ short word.
    let read = c.in-Ok.ensures.exact short (passing_lack is_graphic 32 c.args.word.now refl word) in
    (subst (λ line. PassesLine line c.args.text.now c.line.new.self) read.0 c.in_ok-line.ensures.exact.0, read.1)

pub returns-in-Err-clause-exact : goal.returns-in-Err-clause-exact
returns-in-Err-clause-exact c = λ short word.
    rw c.fault.ensures (count_refused c.args.word.now c.args.most c.in_ok-line.line.now c.args.text.now c.line.new.self c.in-Err.fault c.in_ok-line.ensures.exact.0 c.in_ok-line.ensures.exact.1 (c.in-Err.ensures.exact short (passing_lack is_graphic 32 c.args.word.now refl word)))
