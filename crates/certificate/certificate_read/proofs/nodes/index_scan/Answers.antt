use Rattle.std.proofs.Common.{◌≡◌, refl}
use Rattle.certificate_read.specs.declared.node_forms.OperatorForm.TheVariants as operator
use Rattle.certificate_read.specs.NodeReading.{operator_of}
use Rattle.certificate_read.specs.WordReading.{number_wording, conjuncts_wording}
use Rattle.certificate_read.specs.Wordings.{◌␣◌, left_words}
use Rattle.certificate_read.proofs.WordLaws.{number_told}
use Rattle.certificate_read.proofs.Wordings.{passes_two, passes_made, first_refused, second_refused, handed_on}
use Rattle.certificate_read.proofs.nodes.index_scan.Goals as goal

pub returns-in_err-line : goal.returns-in_err-line
returns-in_err-line c =
    handed_on (number_wording ␣ number_wording ␣ number_wording ␣ conjuncts_wording) (λ p. (operator_of operator.IndexScan p).0) c.args.words.now c.number.new.self c.from_residual.result c.in_err-line.field-0.0 c.from_residual.ensures.1
    (first_refused number_wording (number_wording ␣ number_wording ␣ conjuncts_wording) (left_words c.args.words.now) c.in_err-line.field-0.0 c.in_err-line.ensures)

pub returns-in_err-instance : goal.returns-in_err-instance
returns-in_err-instance c =
    handed_on (number_wording ␣ number_wording ␣ number_wording ␣ conjuncts_wording) (λ p. (operator_of operator.IndexScan p).0) c.args.words.now c.number-2.new.self c.from_residual-in_err-instance.result c.in_err-instance.field-0.0 c.from_residual-in_err-instance.ensures.1
    (second_refused number_wording (number_wording ␣ number_wording ␣ conjuncts_wording) number_told (λ x. c.in_ok-line.line ≡ x) c.args.words.now c.number.new.self c.in_err-instance.field-0.0 c.in_ok-line.ensures
    (first_refused number_wording (number_wording ␣ conjuncts_wording) (left_words c.number.new.self) c.in_err-instance.field-0.0 c.in_err-instance.ensures))

pub returns-in_err-index : goal.returns-in_err-index
returns-in_err-index c =
    handed_on (number_wording ␣ number_wording ␣ number_wording ␣ conjuncts_wording) (λ p. (operator_of operator.IndexScan p).0) c.args.words.now c.number-3.new.self c.from_residual-in_err-index.result c.in_err-index.field-0.0 c.from_residual-in_err-index.ensures.1
    (second_refused number_wording (number_wording ␣ number_wording ␣ conjuncts_wording) number_told (λ x. c.in_ok-line.line ≡ x) c.args.words.now c.number.new.self c.in_err-index.field-0.0 c.in_ok-line.ensures
    (second_refused number_wording (number_wording ␣ conjuncts_wording) number_told (λ x. c.in_ok-instance.instance ≡ x) c.number.new.self c.number-2.new.self c.in_err-index.field-0.0 c.in_ok-instance.ensures
    (first_refused number_wording conjuncts_wording (left_words c.number-2.new.self) c.in_err-index.field-0.0 c.in_err-index.ensures)))

pub returns-in_err-conjuncts : goal.returns-in_err-conjuncts
returns-in_err-conjuncts c =
    handed_on (number_wording ␣ number_wording ␣ number_wording ␣ conjuncts_wording) (λ p. (operator_of operator.IndexScan p).0) c.args.words.now c.conjuncts.new.self c.from_residual-in_err-conjuncts.result c.in_err-conjuncts.field-0.0 c.from_residual-in_err-conjuncts.ensures.1
    (second_refused number_wording (number_wording ␣ number_wording ␣ conjuncts_wording) number_told (λ x. c.in_ok-line.line ≡ x) c.args.words.now c.number.new.self c.in_err-conjuncts.field-0.0 c.in_ok-line.ensures
    (second_refused number_wording (number_wording ␣ conjuncts_wording) number_told (λ x. c.in_ok-instance.instance ≡ x) c.number.new.self c.number-2.new.self c.in_err-conjuncts.field-0.0 c.in_ok-instance.ensures
    (second_refused number_wording conjuncts_wording number_told (λ x. c.in_ok-index.index ≡ x) c.number-2.new.self c.number-3.new.self c.in_err-conjuncts.field-0.0 c.in_ok-index.ensures
    c.in_err-conjuncts.ensures)))

pub returns : goal.returns
returns c =
    passes_made (number_wording ␣ number_wording ␣ number_wording ␣ conjuncts_wording) (λ p. (operator_of operator.IndexScan p).0) (c.in_ok-line.line, (c.in_ok-instance.instance, (c.in_ok-index.index, c.in_ok-conjuncts.conjuncts))) _ c.args.words.now c.conjuncts.new.self refl
    (passes_two number_wording (number_wording ␣ number_wording ␣ conjuncts_wording) c.in_ok-line.line (c.in_ok-instance.instance, (c.in_ok-index.index, c.in_ok-conjuncts.conjuncts)) c.args.words.now c.number.new.self c.conjuncts.new.self c.in_ok-line.ensures
    (passes_two number_wording (number_wording ␣ conjuncts_wording) c.in_ok-instance.instance (c.in_ok-index.index, c.in_ok-conjuncts.conjuncts) c.number.new.self c.number-2.new.self c.conjuncts.new.self c.in_ok-instance.ensures
    (passes_two number_wording conjuncts_wording c.in_ok-index.index c.in_ok-conjuncts.conjuncts c.number-2.new.self c.number-3.new.self c.conjuncts.new.self c.in_ok-index.ensures
    c.in_ok-conjuncts.ensures)))
