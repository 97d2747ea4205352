use Rattle.std.proofs.Common.{◌≡◌, refl}
use Rattle.derivation.specs.declared.line.Line.TheVariants.{Adds}
use Rattle.certificate_read.specs.LineReading.{expr_wording, step_wording}
use Rattle.certificate_read.specs.WordReading.{number_wording}
use Rattle.certificate_read.specs.Wordings.{◌␣◌}
use Rattle.certificate_read.proofs.LineLaws.{step_told}
use Rattle.certificate_read.proofs.WordLaws.{number_told}
use Rattle.certificate_read.proofs.Wordings.{passes_two, passes_made, second_refused, handed_on}
use Rattle.certificate_read.proofs.derivation_lines.adds.Goals as goal

pub returns-in_err-expr : goal.returns-in_err-expr
returns-in_err-expr c =
    handed_on (number_wording ␣ step_wording ␣ expr_wording) (λ p. Adds p.0 p.1.0 p.1.1) c.args.words.now c.expr.new.words c.from_residual-in_err-expr.result c.in_err-expr.field-0.0 c.from_residual-in_err-expr.ensures.1
    (second_refused number_wording (step_wording ␣ expr_wording) number_told (λ x. c.in_ok-class.class ≡ x) c.args.words.now c.number.new.self c.in_err-expr.field-0.0 c.in_ok-class.ensures
    (second_refused step_wording expr_wording step_told (λ x. c.in_ok-step.step ≡ x) c.number.new.self c.step.new.words c.in_err-expr.field-0.0 c.in_ok-step.ensures
    c.in_err-expr.ensures))

pub returns : goal.returns
returns c =
    passes_made (number_wording ␣ step_wording ␣ expr_wording) (λ p. Adds p.0 p.1.0 p.1.1) (c.in_ok-class.class, (c.in_ok-step.step, c.in_ok-expr.field-0)) _ c.args.words.now c.expr.new.words refl
    (passes_two number_wording (step_wording ␣ expr_wording) c.in_ok-class.class (c.in_ok-step.step, c.in_ok-expr.field-0) c.args.words.now c.number.new.self c.expr.new.words c.in_ok-class.ensures
    (passes_two step_wording expr_wording c.in_ok-step.step c.in_ok-expr.field-0 c.number.new.self c.step.new.words c.expr.new.words c.in_ok-step.ensures
    c.in_ok-expr.ensures))
