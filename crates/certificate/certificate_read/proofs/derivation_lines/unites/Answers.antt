use Rattle.std.proofs.Common.{◌≡◌, refl}
use Rattle.derivation.specs.declared.line.Line.TheVariants.{Unites}
use Rattle.certificate_read.specs.LineReading.{step_wording}
use Rattle.certificate_read.specs.WordReading.{number_wording}
use Rattle.certificate_read.specs.Wordings.{◌␣◌, left_words}
use Rattle.certificate_read.proofs.WordLaws.{number_told}
use Rattle.certificate_read.proofs.Wordings.{passes_two, passes_made, first_refused, second_refused, handed_on}
use Rattle.certificate_read.proofs.derivation_lines.unites.Goals as goal

pub returns-in_err-second : goal.returns-in_err-second
returns-in_err-second c =
    handed_on (number_wording ␣ number_wording ␣ step_wording) (λ p. Unites p.0 p.1.0 p.1.1) c.args.words.now c.number-2.new.self c.from_residual-in_err-second.result c.in_err-second.field-0.0 c.from_residual-in_err-second.ensures.1
    (second_refused number_wording (number_wording ␣ step_wording) number_told (λ x. c.in_ok-first.first ≡ x) c.args.words.now c.number.new.self c.in_err-second.field-0.0 c.in_ok-first.ensures
    (first_refused number_wording step_wording (left_words c.number.new.self) c.in_err-second.field-0.0 c.in_err-second.ensures))

pub returns : goal.returns
returns c =
    passes_made (number_wording ␣ number_wording ␣ step_wording) (λ p. Unites p.0 p.1.0 p.1.1) (c.in_ok-first.first, (c.in_ok-second.second, c.in_ok-step.field-0)) _ c.args.words.now c.step.new.words refl
    (passes_two number_wording (number_wording ␣ step_wording) c.in_ok-first.first (c.in_ok-second.second, c.in_ok-step.field-0) c.args.words.now c.number.new.self c.step.new.words c.in_ok-first.ensures
    (passes_two number_wording step_wording c.in_ok-second.second c.in_ok-step.field-0 c.number.new.self c.number-2.new.self c.step.new.words c.in_ok-second.ensures
    c.in_ok-step.ensures))
