use Rattle.std.proofs.Common.{◌≡◌, refl}
use Rattle.physical.specs.declared.plan.Operator.TheVariants.{GroupRows}
use Rattle.certificate_read.specs.WordReading.{columns_wording, aggregations_wording}
use Rattle.certificate_read.specs.Wordings.{◌␣◌, left_words}
use Rattle.certificate_read.proofs.WordLaws.{columns_told}
use Rattle.certificate_read.proofs.Wordings.{passes_two, passes_made, first_refused, second_refused, handed_on}
use Rattle.certificate_read.proofs.nodes.group.Goals as goal

pub returns-in_err-keys : goal.returns-in_err-keys
returns-in_err-keys c =
    handed_on (columns_wording ␣ aggregations_wording) (λ p. GroupRows c.args.method p.0 p.1) c.args.words.now c.columns.new.self c.from_residual.result c.in_err-keys.field-0.0 c.from_residual.ensures.1
    (first_refused columns_wording aggregations_wording (left_words c.args.words.now) c.in_err-keys.field-0.0 c.in_err-keys.ensures)

pub returns-in_err-added : goal.returns-in_err-added
returns-in_err-added c =
    handed_on (columns_wording ␣ aggregations_wording) (λ p. GroupRows c.args.method p.0 p.1) c.args.words.now c.aggregations.new.self c.from_residual-in_err-added.result c.in_err-added.field-0.0 c.from_residual-in_err-added.ensures.1
    (second_refused columns_wording aggregations_wording columns_told (λ x. c.in_ok-keys.keys ≡ x) c.args.words.now c.columns.new.self c.in_err-added.field-0.0 c.in_ok-keys.ensures
    c.in_err-added.ensures)

pub returns : goal.returns
returns c =
    passes_made (columns_wording ␣ aggregations_wording) (λ p. GroupRows c.args.method p.0 p.1) (c.in_ok-keys.keys, c.in_ok-added.added) _ c.args.words.now c.aggregations.new.self refl
    (passes_two columns_wording aggregations_wording c.in_ok-keys.keys c.in_ok-added.added c.args.words.now c.columns.new.self c.aggregations.new.self c.in_ok-keys.ensures
    c.in_ok-added.ensures)
