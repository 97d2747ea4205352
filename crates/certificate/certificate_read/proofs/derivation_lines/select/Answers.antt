use Rattle.std.proofs.Common.{◌≡◌, refl}
use Rattle.algebra.specs.declared.expr.Expr.TheVariants.{Select}
use Rattle.certificate_read.specs.WordReading.{number_wording, conjuncts_wording}
use Rattle.certificate_read.specs.Wordings.{◌␣◌, left_words}
use Rattle.certificate_read.proofs.WideConjuncts.{conjuncts_told}
use Rattle.certificate_read.proofs.Wordings.{passes_two, passes_made, first_refused, second_refused, handed_on}
use Rattle.certificate_read.proofs.derivation_lines.select.Goals as goal

pub returns-in_err-conjuncts : goal.returns-in_err-conjuncts
returns-in_err-conjuncts c =
    handed_on (conjuncts_wording ␣ number_wording) (λ p. Select p.0 p.1) c.args.words.now c.conjuncts.new.self c.from_residual.result c.in_err-conjuncts.field-0.0 c.from_residual.ensures.1
    (first_refused conjuncts_wording number_wording (left_words c.args.words.now) c.in_err-conjuncts.field-0.0 c.in_err-conjuncts.ensures)

pub returns-in_err-number : goal.returns-in_err-number
returns-in_err-number c =
    handed_on (conjuncts_wording ␣ number_wording) (λ p. Select p.0 p.1) c.args.words.now c.number.new.self c.from_residual-in_err-number.result c.in_err-number.field-0.0 c.from_residual-in_err-number.ensures.1
    (second_refused conjuncts_wording number_wording conjuncts_told (λ x. c.in_ok-conjuncts.conjuncts ≡ x) c.args.words.now c.conjuncts.new.self c.in_err-number.field-0.0 c.in_ok-conjuncts.ensures
    c.in_err-number.ensures)

pub returns : goal.returns
returns c =
    passes_made (conjuncts_wording ␣ number_wording) (λ p. Select p.0 p.1) (c.in_ok-conjuncts.conjuncts, c.in_ok-number.field-0) _ c.args.words.now c.number.new.self refl
    (passes_two conjuncts_wording number_wording c.in_ok-conjuncts.conjuncts c.in_ok-number.field-0 c.args.words.now c.conjuncts.new.self c.number.new.self c.in_ok-conjuncts.ensures
    c.in_ok-number.ensures)
