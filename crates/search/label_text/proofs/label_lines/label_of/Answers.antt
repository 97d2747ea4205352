use Rattle.std.proofs.Common.{◌≡◌, refl, ap}
use Rattle.certificate_read.specs.NodeReading.{keys_wording}
use Rattle.certificate_read.specs.WordReading.{number_wording}
use Rattle.certificate_read.specs.Wordings.{◌␣◌, left_words}
use Rattle.certificate_read.proofs.KeyTexts.{keys_told}
use Rattle.certificate_read.proofs.WordLaws.{number_told}
use Rattle.certificate_read.proofs.Wordings.{first_refused, handed_on, parts_passes, parts_refused, passes_two, second_refused}
use Rattle.label_text.specs.LabelReading.{cost_wording, label_parts, label_wording, parts_wording}
use Rattle.label_text.proofs.LabelWords.{label_from}
use Rattle.label_text.proofs.label_lines.label_of.Goals as goal

pub returns-in_err-class : goal.returns-in_err-class
returns-in_err-class c =
    handed_on label_wording (λ l. l) c.args.words.now c.number.new.self c.from_residual.result c.in_err-class.field-0.0 c.from_residual.ensures.1
    (parts_refused label_parts parts_wording (left_words c.args.words.now) c.in_err-class.field-0.0
    (first_refused number_wording (keys_wording ␣ cost_wording) (left_words c.args.words.now) c.in_err-class.field-0.0 c.in_err-class.ensures))

pub returns-in_err-order : goal.returns-in_err-order
returns-in_err-order c =
    handed_on label_wording (λ l. l) c.args.words.now c.keys.new.words c.from_residual-in_err-order.result c.in_err-order.field-0.0 c.from_residual-in_err-order.ensures.1
    (parts_refused label_parts parts_wording (left_words c.args.words.now) c.in_err-order.field-0.0
    (second_refused number_wording (keys_wording ␣ cost_wording) number_told (λ x. c.in_ok-class.class ≡ x) c.args.words.now c.number.new.self c.in_err-order.field-0.0 c.in_ok-class.ensures
    (first_refused keys_wording cost_wording (left_words c.number.new.self) c.in_err-order.field-0.0 c.in_err-order.ensures)))

pub returns-in_err-cost : goal.returns-in_err-cost
returns-in_err-cost c =
    handed_on label_wording (λ l. l) c.args.words.now c.cost.new.words c.from_residual-in_err-cost.result c.in_err-cost.field-0.0 c.from_residual-in_err-cost.ensures.1
    (parts_refused label_parts parts_wording (left_words c.args.words.now) c.in_err-cost.field-0.0
    (second_refused number_wording (keys_wording ␣ cost_wording) number_told (λ x. c.in_ok-class.class ≡ x) c.args.words.now c.number.new.self c.in_err-cost.field-0.0 c.in_ok-class.ensures
    (second_refused keys_wording cost_wording keys_told (λ x. c.in_ok-order.order ≡ x) c.number.new.self c.keys.new.words c.in_err-cost.field-0.0 c.in_ok-order.ensures
    c.in_err-cost.ensures)))

pub returns : goal.returns
returns c =
    parts_passes label_parts parts_wording label_from (λ x. (c.in_ok-class.class, (c.in_ok-order.order, c.in_ok-cost.cost)) ≡ x) _ c.args.words.now c.cost.new.words (λ x. refl) (λ x e. ap label_from e)
    (passes_two number_wording (keys_wording ␣ cost_wording) c.in_ok-class.class (c.in_ok-order.order, c.in_ok-cost.cost) c.args.words.now c.number.new.self c.cost.new.words c.in_ok-class.ensures
    (passes_two keys_wording cost_wording c.in_ok-order.order c.in_ok-cost.cost c.number.new.self c.keys.new.words c.cost.new.words c.in_ok-order.ensures
    c.in_ok-cost.ensures))
