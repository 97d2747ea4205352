use Rattle.std.proofs.Common.{◌∙◌, ap, subst, true}
use Rattle.certificate_text.proofs.NumberLists.{texts}
use Rattle.certificate_read.specs.Wordings.{ReadsLine}
use Rattle.certificate_read.proofs.Wordings.{end_refused, line_refused, not_deep}
use Rattle.label_text.specs.LabelReading.{label_wording}
use Rattle.label_text.proofs.LabelWords.{label_told}
use Rattle.label_text.proofs.label_lines.label.Goals as goal

pub returns-in_err-label : goal.returns-in_err-label
returns-in_err-label c =
    let cut = c.of-words.ensures.left ∙ ap texts c.as_slice.ensures.value ∙ c.in_ok-parts.ensures in
    subst (λ ws. ReadsLine label_wording (λ l. l) ws c.from_residual-in_err-label.result) cut
    (not_deep label_wording (λ l. l) _ c.from_residual-in_err-label.result (line_refused label_wording true (λ l. l) c.of-words.result c.of-words.ensures.in_range c.from_residual-in_err-label.result c.in_err-label.field-0.0 c.from_residual-in_err-label.ensures.1 c.in_err-label.ensures))

pub returns-in_err-end : goal.returns-in_err-end
returns-in_err-end c =
    let cut = c.of-words.ensures.left ∙ ap texts c.as_slice.ensures.value ∙ c.in_ok-parts.ensures in
    subst (λ ws. ReadsLine label_wording (λ l. l) ws c.from_residual-in_err-end.result) cut
    (not_deep label_wording (λ l. l) _ c.from_residual-in_err-end.result (end_refused label_wording true (λ l. l) c.of-words.result c.of-words.ensures.in_range label_told c.label_of.new.words c.in_ok-label.label c.in_ok-label.ensures c.from_residual-in_err-end.result c.in_err-end.field-0.0 c.from_residual-in_err-end.ensures.1 c.in_err-end.ensures))
