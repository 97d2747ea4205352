use Rattle.std.proofs.Common.{◌∙◌, ap, subst, true}
use Rattle.certificate_text.proofs.NumberLists.{texts}
use Rattle.certificate_read.specs.LineReading.{line_wording}
use Rattle.certificate_read.specs.Wordings.{ReadsLine}
use Rattle.certificate_read.proofs.LineLaws.{line_told}
use Rattle.certificate_read.proofs.Wordings.{line_refused, end_refused, not_deep}
use Rattle.certificate_read.proofs.derivation_lines.derivation_line.Goals as goal

pub returns-in_err-line : goal.returns-in_err-line
returns-in_err-line c =
    let cut = c.of-words.ensures.left ∙ ap texts c.as_slice.ensures.value ∙ c.in_ok-parts.ensures in
    subst (λ ws. ReadsLine line_wording (λ l. l) ws c.from_residual-in_err-line.result) cut
    (not_deep line_wording (λ l. l) _ c.from_residual-in_err-line.result (line_refused line_wording true (λ l. l) c.of-words.result c.of-words.ensures.in_range c.from_residual-in_err-line.result c.in_err-line.field-0.0 c.from_residual-in_err-line.ensures.1 c.in_err-line.ensures))

pub returns-in_err-end : goal.returns-in_err-end
returns-in_err-end c =
    let cut = c.of-words.ensures.left ∙ ap texts c.as_slice.ensures.value ∙ c.in_ok-parts.ensures in
    subst (λ ws. ReadsLine line_wording (λ l. l) ws c.from_residual-in_err-end.result) cut
    (not_deep line_wording (λ l. l) _ c.from_residual-in_err-end.result (end_refused line_wording true (λ l. l) c.of-words.result c.of-words.ensures.in_range line_told c.line_of.new.words c.in_ok-line.line c.in_ok-line.ensures c.from_residual-in_err-end.result c.in_err-end.field-0.0 c.from_residual-in_err-end.ensures.1 c.in_err-end.ensures))
