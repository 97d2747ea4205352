use Rattle.std.proofs.Common.{◌≡◌, refl}
use Rattle.certificate_read.specs.declared.node_forms.KindForm.TheVariants as kind
use Rattle.certificate_read.specs.NodeReading.{matching_of}
use Rattle.certificate_read.specs.WordReading.{conjuncts_wording}
use Rattle.certificate_read.specs.Wordings.{◌␣◌, left_words}
use Rattle.certificate_read.proofs.WideConjuncts.{conjuncts_told}
use Rattle.certificate_read.proofs.Wordings.{passes_two, passes_made, first_refused, second_refused, handed_on}
use Rattle.certificate_read.proofs.nodes.anti.Goals as goal

pub returns-in_err-ordinary : goal.returns-in_err-ordinary
returns-in_err-ordinary c =
    handed_on (conjuncts_wording ␣ conjuncts_wording) (matching_of kind.Anti) c.args.words.now c.conjuncts.new.self c.from_residual.result c.in_err-ordinary.field-0.0 c.from_residual.ensures.1
    (first_refused conjuncts_wording conjuncts_wording (left_words c.args.words.now) c.in_err-ordinary.field-0.0 c.in_err-ordinary.ensures)

pub returns-in_err-conjuncts : goal.returns-in_err-conjuncts
returns-in_err-conjuncts c =
    handed_on (conjuncts_wording ␣ conjuncts_wording) (matching_of kind.Anti) c.args.words.now c.conjuncts-2.new.self c.from_residual-in_err-conjuncts.result c.in_err-conjuncts.field-0.0 c.from_residual-in_err-conjuncts.ensures.1
    (second_refused conjuncts_wording conjuncts_wording conjuncts_told (λ x. c.in_ok-ordinary.ordinary ≡ x) c.args.words.now c.conjuncts.new.self c.in_err-conjuncts.field-0.0 c.in_ok-ordinary.ensures
    c.in_err-conjuncts.ensures)

pub returns : goal.returns
returns c =
    passes_made (conjuncts_wording ␣ conjuncts_wording) (matching_of kind.Anti) (c.in_ok-ordinary.ordinary, c.in_ok-conjuncts.field-0) _ c.args.words.now c.conjuncts-2.new.self refl
    (passes_two conjuncts_wording conjuncts_wording c.in_ok-ordinary.ordinary c.in_ok-conjuncts.field-0 c.args.words.now c.conjuncts.new.self c.conjuncts-2.new.self c.in_ok-ordinary.ensures
    c.in_ok-conjuncts.ensures)
