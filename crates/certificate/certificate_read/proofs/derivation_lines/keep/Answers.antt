use Rattle.std.proofs.Common.{◌≡◌, refl}
use Rattle.algebra.specs.declared.expr.Expr.TheVariants.{Keep}
use Rattle.certificate_read.specs.WordReading.{number_wording, columns_wording}
use Rattle.certificate_read.specs.Wordings.{◌␣◌, left_words}
use Rattle.certificate_read.proofs.WordLaws.{columns_told}
use Rattle.certificate_read.proofs.Wordings.{passes_two, passes_made, first_refused, second_refused, handed_on}
use Rattle.certificate_read.proofs.derivation_lines.keep.Goals as goal

pub returns-in_err-columns : goal.returns-in_err-columns
returns-in_err-columns c =
    handed_on (columns_wording ␣ number_wording) (λ p. Keep p.0 p.1) c.args.words.now c.columns.new.self c.from_residual.result c.in_err-columns.field-0.0 c.from_residual.ensures.1
    (first_refused columns_wording number_wording (left_words c.args.words.now) c.in_err-columns.field-0.0 c.in_err-columns.ensures)

pub returns-in_err-number : goal.returns-in_err-number
returns-in_err-number c =
    handed_on (columns_wording ␣ number_wording) (λ p. Keep p.0 p.1) c.args.words.now c.number.new.self c.from_residual-in_err-number.result c.in_err-number.field-0.0 c.from_residual-in_err-number.ensures.1
    (second_refused columns_wording number_wording columns_told (λ x. c.in_ok-columns.columns ≡ x) c.args.words.now c.columns.new.self c.in_err-number.field-0.0 c.in_ok-columns.ensures
    c.in_err-number.ensures)

pub returns : goal.returns
returns c =
    passes_made (columns_wording ␣ number_wording) (λ p. Keep p.0 p.1) (c.in_ok-columns.columns, c.in_ok-number.field-0) _ c.args.words.now c.number.new.self refl
    (passes_two columns_wording number_wording c.in_ok-columns.columns c.in_ok-number.field-0 c.args.words.now c.columns.new.self c.number.new.self c.in_ok-columns.ensures
    c.in_ok-number.ensures)
