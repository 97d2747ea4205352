use Rattle.std.proofs.Common.{◌≡◌, refl}
use Rattle.physical.specs.declared.plan.JoinMethod.TheVariants as method
use Rattle.physical.specs.declared.plan.Matching.TheVariants as matching
use Rattle.physical.specs.declared.plan.Operator.TheVariants.{JoinRows}
use Rattle.certificate_read.specs.WordReading.{number_wording, conjuncts_wording}
use Rattle.certificate_read.specs.Wordings.{◌␣◌, left_words}
use Rattle.certificate_read.proofs.WordLaws.{number_told}
use Rattle.certificate_read.proofs.Wordings.{passes_two, passes_made, first_refused, second_refused, handed_on}
use Rattle.certificate_read.proofs.nodes.merge.Goals as goal

pub returns-in_err-left : goal.returns-in_err-left
returns-in_err-left c =
    handed_on (number_wording ␣ number_wording ␣ conjuncts_wording) (λ p. JoinRows (method.Merge p.0 p.1.0) (matching.Inner p.1.1)) c.args.words.now c.number.new.self c.from_residual.result c.in_err-left.field-0.0 c.from_residual.ensures.1
    (first_refused number_wording (number_wording ␣ conjuncts_wording) (left_words c.args.words.now) c.in_err-left.field-0.0 c.in_err-left.ensures)

pub returns-in_err-right : goal.returns-in_err-right
returns-in_err-right c =
    handed_on (number_wording ␣ number_wording ␣ conjuncts_wording) (λ p. JoinRows (method.Merge p.0 p.1.0) (matching.Inner p.1.1)) c.args.words.now c.number-2.new.self c.from_residual-in_err-right.result c.in_err-right.field-0.0 c.from_residual-in_err-right.ensures.1
    (second_refused number_wording (number_wording ␣ conjuncts_wording) number_told (λ x. c.in_ok-left.left ≡ x) c.args.words.now c.number.new.self c.in_err-right.field-0.0 c.in_ok-left.ensures
    (first_refused number_wording conjuncts_wording (left_words c.number.new.self) c.in_err-right.field-0.0 c.in_err-right.ensures))

pub returns-in_err-conjuncts : goal.returns-in_err-conjuncts
returns-in_err-conjuncts c =
    handed_on (number_wording ␣ number_wording ␣ conjuncts_wording) (λ p. JoinRows (method.Merge p.0 p.1.0) (matching.Inner p.1.1)) c.args.words.now c.conjuncts.new.self c.from_residual-in_err-conjuncts.result c.in_err-conjuncts.field-0.0 c.from_residual-in_err-conjuncts.ensures.1
    (second_refused number_wording (number_wording ␣ conjuncts_wording) number_told (λ x. c.in_ok-left.left ≡ x) c.args.words.now c.number.new.self c.in_err-conjuncts.field-0.0 c.in_ok-left.ensures
    (second_refused number_wording conjuncts_wording number_told (λ x. c.in_ok-right.right ≡ x) c.number.new.self c.number-2.new.self c.in_err-conjuncts.field-0.0 c.in_ok-right.ensures
    c.in_err-conjuncts.ensures))

pub returns : goal.returns
returns c =
    passes_made (number_wording ␣ number_wording ␣ conjuncts_wording) (λ p. JoinRows (method.Merge p.0 p.1.0) (matching.Inner p.1.1)) (c.in_ok-left.left, (c.in_ok-right.right, c.in_ok-conjuncts.field-0)) _ c.args.words.now c.conjuncts.new.self refl
    (passes_two number_wording (number_wording ␣ conjuncts_wording) c.in_ok-left.left (c.in_ok-right.right, c.in_ok-conjuncts.field-0) c.args.words.now c.number.new.self c.conjuncts.new.self c.in_ok-left.ensures
    (passes_two number_wording conjuncts_wording c.in_ok-right.right c.in_ok-conjuncts.field-0 c.number.new.self c.number-2.new.self c.conjuncts.new.self c.in_ok-right.ensures
    c.in_ok-conjuncts.ensures))
