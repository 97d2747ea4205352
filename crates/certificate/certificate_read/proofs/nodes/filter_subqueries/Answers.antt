use Rattle.std.proofs.Common.{◌≡◌, ap}
use Rattle.std.proofs.Common.{◌+◌}
use Rattle.certificate_read.specs.declared.node_forms.OperatorForm.TheVariants as operator
use Rattle.physical.specs.declared.plan.Operator.TheVariants.{FilterSubqueries}
use Rattle.certificate_read.specs.NodeReading.{operator_of}
use Rattle.certificate_read.specs.WordReading.{number_wording, conjuncts_wording}
use Rattle.certificate_read.specs.Wordings.{◌␣◌, left_words}
use Rattle.certificate_read.proofs.WideConjuncts.{conjuncts_told}
use Rattle.certificate_read.proofs.Wordings.{passes_two, passes_made, first_refused, second_refused, handed_on}
use Rattle.certificate_read.proofs.nodes.filter_subqueries.Goals as goal

pub returns-in_err-conjuncts : goal.returns-in_err-conjuncts
returns-in_err-conjuncts c =
    handed_on (conjuncts_wording ␣ number_wording) (operator_of operator.FilterSubqueries) c.args.words.now c.conjuncts.new.self c.from_residual.result c.in_err-conjuncts.field-0.0 c.from_residual.ensures.1
    (first_refused conjuncts_wording number_wording (left_words c.args.words.now) c.in_err-conjuncts.field-0.0 c.in_err-conjuncts.ensures)

pub returns-in_err-more : goal.returns-in_err-more
returns-in_err-more c =
    handed_on (conjuncts_wording ␣ number_wording) (operator_of operator.FilterSubqueries) c.args.words.now c.number.new.self c.from_residual-in_err-more.result c.in_err-more.field-0.0 c.from_residual-in_err-more.ensures.1
    (second_refused conjuncts_wording number_wording conjuncts_told (λ x. c.in_ok-conjuncts.conjuncts ≡ x) c.args.words.now c.conjuncts.new.self c.in_err-more.field-0.0 c.in_ok-conjuncts.ensures
    c.in_err-more.ensures)

pub returns : goal.returns
returns c =
    passes_made (conjuncts_wording ␣ number_wording) (operator_of operator.FilterSubqueries) (c.in_ok-conjuncts.conjuncts, c.in_ok-more.more) _ c.args.words.now c.number.new.self (ap (λ more. (FilterSubqueries c.in_ok-conjuncts.conjuncts, more + 1)) c.from.ensures)
    (passes_two conjuncts_wording number_wording c.in_ok-conjuncts.conjuncts c.in_ok-more.more c.args.words.now c.conjuncts.new.self c.number.new.self c.in_ok-conjuncts.ensures
    c.in_ok-more.ensures)
