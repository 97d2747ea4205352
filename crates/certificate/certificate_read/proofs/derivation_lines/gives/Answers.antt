use Rattle.std.proofs.Common.{◌≡◌, refl}
use Rattle.derivation.specs.declared.line.Line.TheVariants.{Gives}
use Rattle.certificate_read.specs.LineReading.{fact_wording}
use Rattle.certificate_read.specs.WordReading.{number_wording}
use Rattle.certificate_read.specs.Wordings.{◌␣◌, left_words}
use Rattle.certificate_read.proofs.WordLaws.{number_told}
use Rattle.certificate_read.proofs.Wordings.{passes_two, passes_made, first_refused, second_refused, handed_on}
use Rattle.certificate_read.proofs.derivation_lines.gives.Goals as goal

pub returns-in_err-member : goal.returns-in_err-member
returns-in_err-member c =
    handed_on (number_wording ␣ number_wording ␣ fact_wording) (λ p. Gives p.0 p.1.0 p.1.1) c.args.words.now c.number-2.new.self c.from_residual-in_err-member.result c.in_err-member.field-0.0 c.from_residual-in_err-member.ensures.1
    (second_refused number_wording (number_wording ␣ fact_wording) number_told (λ x. c.in_ok-class.class ≡ x) c.args.words.now c.number.new.self c.in_err-member.field-0.0 c.in_ok-class.ensures
    (first_refused number_wording fact_wording (left_words c.number.new.self) c.in_err-member.field-0.0 c.in_err-member.ensures))

pub returns : goal.returns
returns c =
    passes_made (number_wording ␣ number_wording ␣ fact_wording) (λ p. Gives p.0 p.1.0 p.1.1) (c.in_ok-class.class, (c.in_ok-member.member, c.in_ok-fact.field-0)) _ c.args.words.now c.fact.new.words refl
    (passes_two number_wording (number_wording ␣ fact_wording) c.in_ok-class.class (c.in_ok-member.member, c.in_ok-fact.field-0) c.args.words.now c.number.new.self c.fact.new.words c.in_ok-class.ensures
    (passes_two number_wording fact_wording c.in_ok-member.member c.in_ok-fact.field-0 c.number.new.self c.number-2.new.self c.fact.new.words c.in_ok-member.ensures
    c.in_ok-fact.ensures))
