use Rattle.std.proofs.Common.{refl}
use Rattle.props.specs.declared.fact.Fact.TheVariants.{NotNull, WeakKey, StrongKey}
use Rattle.certificate_read.specs.declared.forms.FactForm.TheVariants as form
use Rattle.certificate_read.specs.LineReading.{fact_wording, fact_name, fact_behind, fact_parts}
use Rattle.certificate_read.specs.WordReading.{number_wording, columns_wording}
use Rattle.certificate_read.proofs.LineLaws.{fact_of, fact_back, fact_names}
use Rattle.certificate_read.proofs.Wordings.{passes_made, handed_on, chosen_given, chosen_refused}
use Rattle.certificate_read.proofs.derivation_lines.fact.Goals as goal

pub returns-in_err-number-in-NotNull : goal.returns-in_err-number-in-NotNull
returns-in_err-number-in-NotNull c =
    handed_on fact_wording (λ y. y) c.args.words.now c.number.new.self c.from_residual-in_err-number-in-NotNull.result c.in_err-number-in-NotNull.field-0.0 c.from_residual-in_err-number-in-NotNull.ensures.1
    (chosen_refused fact_name fact_behind fact_parts fact_of fact_back fact_names c.args.words.now c.fact_form.new.words c.in_ok-fact_form.field-0 form.NotNull c.in-NotNull.is c.in_ok-fact_form.ensures c.in_err-number-in-NotNull.field-0.0 c.in_err-number-in-NotNull.ensures)

pub returns-in_ok-number-in-NotNull : goal.returns-in_ok-number-in-NotNull
returns-in_ok-number-in-NotNull c =
    chosen_given fact_name fact_behind fact_parts fact_of fact_back fact_names c.args.words.now c.fact_form.new.words c.in_ok-fact_form.field-0 form.NotNull c.in-NotNull.is c.in_ok-fact_form.ensures c.number.new.self _
    (passes_made number_wording NotNull c.in_ok-number-in-NotNull.field-0 _ c.fact_form.new.words c.number.new.self refl c.in_ok-number-in-NotNull.ensures)

pub returns-in_err-columns-in-WeakKey : goal.returns-in_err-columns-in-WeakKey
returns-in_err-columns-in-WeakKey c =
    handed_on fact_wording (λ y. y) c.args.words.now c.columns.new.self c.from_residual-in_err-columns-in-WeakKey.result c.in_err-columns-in-WeakKey.field-0.0 c.from_residual-in_err-columns-in-WeakKey.ensures.1
    (chosen_refused fact_name fact_behind fact_parts fact_of fact_back fact_names c.args.words.now c.fact_form.new.words c.in_ok-fact_form.field-0 form.WeakKey c.in-WeakKey.is c.in_ok-fact_form.ensures c.in_err-columns-in-WeakKey.field-0.0 c.in_err-columns-in-WeakKey.ensures)

pub returns-in_ok-columns-in-WeakKey : goal.returns-in_ok-columns-in-WeakKey
returns-in_ok-columns-in-WeakKey c =
    chosen_given fact_name fact_behind fact_parts fact_of fact_back fact_names c.args.words.now c.fact_form.new.words c.in_ok-fact_form.field-0 form.WeakKey c.in-WeakKey.is c.in_ok-fact_form.ensures c.columns.new.self _
    (passes_made columns_wording WeakKey c.in_ok-columns-in-WeakKey.field-0 _ c.fact_form.new.words c.columns.new.self refl c.in_ok-columns-in-WeakKey.ensures)

pub returns-in_err-columns-in-StrongKey : goal.returns-in_err-columns-in-StrongKey
returns-in_err-columns-in-StrongKey c =
    handed_on fact_wording (λ y. y) c.args.words.now c.columns-in-StrongKey.new.self c.from_residual-in_err-columns-in-StrongKey.result c.in_err-columns-in-StrongKey.field-0.0 c.from_residual-in_err-columns-in-StrongKey.ensures.1
    (chosen_refused fact_name fact_behind fact_parts fact_of fact_back fact_names c.args.words.now c.fact_form.new.words c.in_ok-fact_form.field-0 form.StrongKey c.in-StrongKey.is c.in_ok-fact_form.ensures c.in_err-columns-in-StrongKey.field-0.0 c.in_err-columns-in-StrongKey.ensures)

pub returns-in_ok-columns-in-StrongKey : goal.returns-in_ok-columns-in-StrongKey
returns-in_ok-columns-in-StrongKey c =
    chosen_given fact_name fact_behind fact_parts fact_of fact_back fact_names c.args.words.now c.fact_form.new.words c.in_ok-fact_form.field-0 form.StrongKey c.in-StrongKey.is c.in_ok-fact_form.ensures c.columns-in-StrongKey.new.self _
    (passes_made columns_wording StrongKey c.in_ok-columns-in-StrongKey.field-0 _ c.fact_form.new.words c.columns-in-StrongKey.new.self refl c.in_ok-columns-in-StrongKey.ensures)
