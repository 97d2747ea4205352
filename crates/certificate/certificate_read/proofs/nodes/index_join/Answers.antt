use Rattle.std.proofs.Common.{◌≡◌, refl}
use Rattle.physical.specs.declared.plan.Operator.TheVariants.{IndexJoin}
use Rattle.certificate_read.specs.declared.node_forms.OperatorForm.TheVariants as operator
use Rattle.certificate_read.specs.NodeReading.{kind_name, operator_of, lists_behind, matching_of, index_join_behind}
use Rattle.certificate_read.specs.WordReading.{number_wording}
use Rattle.certificate_read.specs.Wordings.{◌␣◌, left_words, named}
use Rattle.certificate_read.proofs.NodeLaws.{kind_names}
use Rattle.certificate_read.proofs.WordLaws.{number_told}
use Rattle.certificate_read.proofs.Wordings.{first_refused, second_refused, handed_on, behind_passes, behind_refused, passes_both}
use Rattle.certificate_read.proofs.nodes.index_join.Goals as goal

pub returns-in_err-instance : goal.returns-in_err-instance
returns-in_err-instance c =
    handed_on (number_wording ␣ named kind_name index_join_behind) (λ p. (operator_of operator.IndexJoin p).0) c.args.words.now c.number-2.new.self c.from_residual-in_err-instance.result c.in_err-instance.field-0.0 c.from_residual-in_err-instance.ensures.1
    (second_refused number_wording (named kind_name index_join_behind) number_told (λ x. c.in_ok-line.line ≡ x) c.args.words.now c.number.new.self c.in_err-instance.field-0.0 c.in_ok-line.ensures
    (behind_refused kind_name index_join_behind c.number.new.self c.kind_form.new.words c.in_ok-kind.kind c.in_ok-kind.kind refl c.in_ok-kind.ensures.0 c.in_ok-kind.ensures.1 kind_names c.in_err-instance.field-0.0
    (first_refused number_wording (number_wording ␣ lists_behind c.in_ok-kind.kind) (left_words c.kind_form.new.words) c.in_err-instance.field-0.0 c.in_err-instance.ensures)))

pub returns-in_err-index : goal.returns-in_err-index
returns-in_err-index c =
    handed_on (number_wording ␣ named kind_name index_join_behind) (λ p. (operator_of operator.IndexJoin p).0) c.args.words.now c.number-3.new.self c.from_residual-in_err-index.result c.in_err-index.field-0.0 c.from_residual-in_err-index.ensures.1
    (second_refused number_wording (named kind_name index_join_behind) number_told (λ x. c.in_ok-line.line ≡ x) c.args.words.now c.number.new.self c.in_err-index.field-0.0 c.in_ok-line.ensures
    (behind_refused kind_name index_join_behind c.number.new.self c.kind_form.new.words c.in_ok-kind.kind c.in_ok-kind.kind refl c.in_ok-kind.ensures.0 c.in_ok-kind.ensures.1 kind_names c.in_err-index.field-0.0
    (second_refused number_wording (number_wording ␣ lists_behind c.in_ok-kind.kind) number_told (λ x. c.in_ok-instance.instance ≡ x) c.kind_form.new.words c.number-2.new.self c.in_err-index.field-0.0 c.in_ok-instance.ensures
    (first_refused number_wording (lists_behind c.in_ok-kind.kind) (left_words c.number-2.new.self) c.in_err-index.field-0.0 c.in_err-index.ensures))))

pub returns-in_err-matching : goal.returns-in_err-matching
returns-in_err-matching c =
    handed_on (number_wording ␣ named kind_name index_join_behind) (λ p. (operator_of operator.IndexJoin p).0) c.args.words.now c.matching.new.words c.from_residual-in_err-matching.result c.in_err-matching.field-0.0 c.from_residual-in_err-matching.ensures.1
    (second_refused number_wording (named kind_name index_join_behind) number_told (λ x. c.in_ok-line.line ≡ x) c.args.words.now c.number.new.self c.in_err-matching.field-0.0 c.in_ok-line.ensures
    (behind_refused kind_name index_join_behind c.number.new.self c.kind_form.new.words c.in_ok-kind.kind c.in_ok-kind.kind refl c.in_ok-kind.ensures.0 c.in_ok-kind.ensures.1 kind_names c.in_err-matching.field-0.0
    (second_refused number_wording (number_wording ␣ lists_behind c.in_ok-kind.kind) number_told (λ x. c.in_ok-instance.instance ≡ x) c.kind_form.new.words c.number-2.new.self c.in_err-matching.field-0.0 c.in_ok-instance.ensures
    (second_refused number_wording (lists_behind c.in_ok-kind.kind) number_told (λ x. c.in_ok-index.index ≡ x) c.number-2.new.self c.number-3.new.self c.in_err-matching.field-0.0 c.in_ok-index.ensures c.in_err-matching.ensures))))

pub returns : goal.returns
returns c =
    passes_both number_wording (named kind_name index_join_behind) (λ x. c.in_ok-line.line ≡ x) (λ j. (c.in_ok-instance.instance ≡ j.1.0) × (c.in_ok-index.index ≡ j.1.1.0) × (c.in_ok-matching.matching ≡ matching_of j.0 j.1.1.1))
    (λ p. IndexJoin (record { line = c.in_ok-line.line; instance = c.in_ok-instance.instance; index = c.in_ok-index.index }) c.in_ok-matching.matching ≡ (operator_of operator.IndexJoin p).0) c.args.words.now c.number.new.self c.matching.new.words (λ x j e f i. IndexJoin (record { line = e i; instance = f.0 i; index = f.1 i }) (f.2 i)) c.in_ok-line.ensures
    (behind_passes kind_name index_join_behind c.number.new.self c.kind_form.new.words c.in_ok-kind.kind c.in_ok-kind.kind refl c.in_ok-kind.ensures.0 c.in_ok-kind.ensures.1 (λ p. (c.in_ok-instance.instance ≡ p.0) × (c.in_ok-index.index ≡ p.1.0) × (c.in_ok-matching.matching ≡ matching_of c.in_ok-kind.kind p.1.1)) (λ j. (c.in_ok-instance.instance ≡ j.1.0) × (c.in_ok-index.index ≡ j.1.1.0) × (c.in_ok-matching.matching ≡ matching_of j.0 j.1.1.1)) c.matching.new.words (λ p e. e)
    (passes_both number_wording (number_wording ␣ lists_behind c.in_ok-kind.kind) (λ x. c.in_ok-instance.instance ≡ x) (λ q. (c.in_ok-index.index ≡ q.0) × (c.in_ok-matching.matching ≡ matching_of c.in_ok-kind.kind q.1)) (λ p. (c.in_ok-instance.instance ≡ p.0) × (c.in_ok-index.index ≡ p.1.0) × (c.in_ok-matching.matching ≡ matching_of c.in_ok-kind.kind p.1.1)) c.kind_form.new.words c.number-2.new.self c.matching.new.words (λ x q e f. (e, f.0, f.1)) c.in_ok-instance.ensures
    (passes_both number_wording (lists_behind c.in_ok-kind.kind) (λ x. c.in_ok-index.index ≡ x) (λ l. c.in_ok-matching.matching ≡ matching_of c.in_ok-kind.kind l) (λ q. (c.in_ok-index.index ≡ q.0) × (c.in_ok-matching.matching ≡ matching_of c.in_ok-kind.kind q.1)) c.number-2.new.self c.number-3.new.self c.matching.new.words (λ x l e f. (e, f)) c.in_ok-index.ensures c.in_ok-matching.ensures)))
