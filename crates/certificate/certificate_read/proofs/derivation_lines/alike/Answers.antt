use Rattle.std.proofs.Common.{◌≡◌, refl}
use Rattle.derivation.specs.declared.line.Line.TheVariants.{Alike}
use Rattle.certificate_read.specs.WordReading.{number_wording}
use Rattle.certificate_read.specs.Wordings.{◌␣◌}
use Rattle.certificate_read.proofs.WordLaws.{number_told}
use Rattle.certificate_read.proofs.Wordings.{passes_two, passes_made, second_refused, handed_on}
use Rattle.certificate_read.proofs.derivation_lines.alike.Goals as goal

pub returns-in_err-number : goal.returns-in_err-number
returns-in_err-number c =
    handed_on (number_wording ␣ number_wording) (λ p. Alike p.0 p.1) c.args.words.now c.number-2.new.self c.from_residual-in_err-number.result c.in_err-number.field-0.0 c.from_residual-in_err-number.ensures.1
    (second_refused number_wording number_wording number_told (λ x. c.in_ok-first.first ≡ x) c.args.words.now c.number.new.self c.in_err-number.field-0.0 c.in_ok-first.ensures
    c.in_err-number.ensures)

pub returns : goal.returns
returns c =
    passes_made (number_wording ␣ number_wording) (λ p. Alike p.0 p.1) (c.in_ok-first.first, c.in_ok-number.field-0) _ c.args.words.now c.number-2.new.self refl
    (passes_two number_wording number_wording c.in_ok-first.first c.in_ok-number.field-0 c.args.words.now c.number.new.self c.number-2.new.self c.in_ok-first.ensures
    c.in_ok-number.ensures)
