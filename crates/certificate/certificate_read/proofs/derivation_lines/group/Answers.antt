use Rattle.std.proofs.Common.{◌≡◌, ap}
use Rattle.algebra.specs.declared.expr.Expr.TheVariants.{Group}
use Rattle.certificate_read.specs.WordReading.{number_wording, columns_wording, aggregations_wording}
use Rattle.certificate_read.specs.Wordings.{◌␣◌, left_words}
use Rattle.certificate_read.proofs.WordLaws.{columns_told, added_told}
use Rattle.certificate_read.proofs.Wordings.{passes_two, passes_made, first_refused, second_refused, handed_on}
use Rattle.certificate_read.proofs.derivation_lines.group.Goals as goal

pub returns-in_err-keys : goal.returns-in_err-keys
returns-in_err-keys c =
    handed_on (columns_wording ␣ aggregations_wording ␣ number_wording) (λ p. Group p.0 p.1.0 p.1.1) c.args.words.now c.columns.new.self c.from_residual.result c.in_err-keys.field-0.0 c.from_residual.ensures.1
    (first_refused columns_wording (aggregations_wording ␣ number_wording) (left_words c.args.words.now) c.in_err-keys.field-0.0 c.in_err-keys.ensures)

pub returns-in_err-added : goal.returns-in_err-added
returns-in_err-added c =
    handed_on (columns_wording ␣ aggregations_wording ␣ number_wording) (λ p. Group p.0 p.1.0 p.1.1) c.args.words.now c.aggregations.new.self c.from_residual-in_err-added.result c.in_err-added.field-0.0 c.from_residual-in_err-added.ensures.1
    (second_refused columns_wording (aggregations_wording ␣ number_wording) columns_told (λ x. c.in_ok-keys.keys ≡ x) c.args.words.now c.columns.new.self c.in_err-added.field-0.0 c.in_ok-keys.ensures
    (first_refused aggregations_wording number_wording (left_words c.columns.new.self) c.in_err-added.field-0.0 c.in_err-added.ensures))

pub returns-in_err-number : goal.returns-in_err-number
returns-in_err-number c =
    handed_on (columns_wording ␣ aggregations_wording ␣ number_wording) (λ p. Group p.0 p.1.0 p.1.1) c.args.words.now c.number.new.self c.from_residual-in_err-number.result c.in_err-number.field-0.0 c.from_residual-in_err-number.ensures.1
    (second_refused columns_wording (aggregations_wording ␣ number_wording) columns_told (λ x. c.in_ok-keys.keys ≡ x) c.args.words.now c.columns.new.self c.in_err-number.field-0.0 c.in_ok-keys.ensures
    (second_refused aggregations_wording number_wording added_told (λ x. c.in_ok-added.added ≡ x) c.columns.new.self c.aggregations.new.self c.in_err-number.field-0.0 c.in_ok-added.ensures
    c.in_err-number.ensures))

pub returns : goal.returns
returns c =
    passes_made (columns_wording ␣ aggregations_wording ␣ number_wording) (λ p. Group p.0 p.1.0 p.1.1) (c.in_ok-keys.keys, (c.in_ok-added.added, c.in_ok-number.field-0)) _ c.args.words.now c.number.new.self (ap (λ K. Group K c.in_ok-added.added c.in_ok-number.field-0) c.keys.view_is)
    (passes_two columns_wording (aggregations_wording ␣ number_wording) c.in_ok-keys.keys (c.in_ok-added.added, c.in_ok-number.field-0) c.args.words.now c.columns.new.self c.number.new.self c.in_ok-keys.ensures
    (passes_two aggregations_wording number_wording c.in_ok-added.added c.in_ok-number.field-0 c.columns.new.self c.aggregations.new.self c.number.new.self c.in_ok-added.ensures
    c.in_ok-number.ensures))
