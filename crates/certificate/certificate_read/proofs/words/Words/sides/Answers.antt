use Rattle.std.proofs.Common.{refl, ◌≡◌}
use Rattle.certificate_read.specs.WordReading.{number_wording, conjuncts_wording}
use Rattle.certificate_read.specs.Wordings.{◌␣◌, left_words}
use Rattle.certificate_read.proofs.WideConjuncts.{conjuncts_told}
use Rattle.certificate_read.proofs.WordLaws.{number_told}
use Rattle.certificate_read.proofs.Wordings.{passes_two, passes_made, first_refused, second_refused, handed_on}
use Rattle.certificate_read.proofs.words.Words.sides.Goals as goal

pub returns-in_err-conjuncts : goal.returns-in_err-conjuncts
returns-in_err-conjuncts c =
    handed_on (conjuncts_wording ␣ number_wording ␣ number_wording) (λ s. (s.0, s.1.0, s.1.1)) c.args.self.now c.conjuncts.new.self c.from_residual.result c.in_err-conjuncts.field-0.0 c.from_residual.ensures.1
    (first_refused conjuncts_wording (number_wording ␣ number_wording) (left_words c.args.self.now) c.in_err-conjuncts.field-0.0 c.in_err-conjuncts.ensures)

pub returns-in_err-left : goal.returns-in_err-left
returns-in_err-left c =
    handed_on (conjuncts_wording ␣ number_wording ␣ number_wording) (λ s. (s.0, s.1.0, s.1.1)) c.args.self.now c.number.new.self c.from_residual-in_err-left.result c.in_err-left.field-0.0 c.from_residual-in_err-left.ensures.1
    (second_refused conjuncts_wording (number_wording ␣ number_wording) conjuncts_told (λ x. c.in_ok-conjuncts.conjuncts ≡ x) c.args.self.now c.conjuncts.new.self c.in_err-left.field-0.0 c.in_ok-conjuncts.ensures
    (first_refused number_wording number_wording (left_words c.conjuncts.new.self) c.in_err-left.field-0.0 c.in_err-left.ensures))

pub returns-in_err-number : goal.returns-in_err-number
returns-in_err-number c =
    handed_on (conjuncts_wording ␣ number_wording ␣ number_wording) (λ s. (s.0, s.1.0, s.1.1)) c.args.self.now c.number-2.new.self c.from_residual-in_err-number.result c.in_err-number.field-0.0 c.from_residual-in_err-number.ensures.1
    (second_refused conjuncts_wording (number_wording ␣ number_wording) conjuncts_told (λ x. c.in_ok-conjuncts.conjuncts ≡ x) c.args.self.now c.conjuncts.new.self c.in_err-number.field-0.0 c.in_ok-conjuncts.ensures
    (second_refused number_wording number_wording number_told (λ x. c.in_ok-left.left ≡ x) c.conjuncts.new.self c.number.new.self c.in_err-number.field-0.0 c.in_ok-left.ensures
    c.in_err-number.ensures))

pub returns : goal.returns
returns c =
    passes_made (conjuncts_wording ␣ number_wording ␣ number_wording) (λ s. (s.0, s.1.0, s.1.1)) (c.in_ok-conjuncts.conjuncts, (c.in_ok-left.left, c.in_ok-number.field-0)) _ c.args.self.now c.number-2.new.self refl
    (passes_two conjuncts_wording (number_wording ␣ number_wording) c.in_ok-conjuncts.conjuncts (c.in_ok-left.left, c.in_ok-number.field-0) c.args.self.now c.conjuncts.new.self c.number-2.new.self c.in_ok-conjuncts.ensures
    (passes_two number_wording number_wording c.in_ok-left.left c.in_ok-number.field-0 c.conjuncts.new.self c.number.new.self c.number-2.new.self c.in_ok-left.ensures
    c.in_ok-number.ensures))
