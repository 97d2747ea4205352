use Rattle.std.proofs.Common.{refl}
use Rattle.derivation.specs.declared.line.Line.TheVariants.{Founds}
use Rattle.certificate_read.specs.declared.forms.LineForm.TheVariants as form
use Rattle.certificate_read.specs.LineReading.{expr_wording, line_wording, line_name, line_behind, line_parts}
use Rattle.certificate_read.proofs.LineLaws.{line_of, line_back, line_names}
use Rattle.certificate_read.proofs.Wordings.{passes_made, handed_on, chosen_given, chosen_refused, chosen_reads}
use Rattle.certificate_read.proofs.derivation_lines.line_of.Goals as goal

pub returns-in_err-expr-in-Founds : goal.returns-in_err-expr-in-Founds
returns-in_err-expr-in-Founds c =
    handed_on line_wording (λ y. y) c.args.words.now c.expr.new.words c.from_residual-in_err-expr-in-Founds.result c.in_err-expr-in-Founds.field-0.0 c.from_residual-in_err-expr-in-Founds.ensures.1
    (chosen_refused line_name line_behind line_parts line_of line_back line_names c.args.words.now c.line_form.new.words c.in_ok-line_form.field-0 form.Founds c.in-Founds.is c.in_ok-line_form.ensures c.in_err-expr-in-Founds.field-0.0 c.in_err-expr-in-Founds.ensures)

pub returns-in_ok-expr-in-Founds : goal.returns-in_ok-expr-in-Founds
returns-in_ok-expr-in-Founds c =
    chosen_given line_name line_behind line_parts line_of line_back line_names c.args.words.now c.line_form.new.words c.in_ok-line_form.field-0 form.Founds c.in-Founds.is c.in_ok-line_form.ensures c.expr.new.words _
    (passes_made expr_wording Founds c.in_ok-expr-in-Founds.field-0 _ c.line_form.new.words c.expr.new.words refl c.in_ok-expr-in-Founds.ensures)

pub returns-in-Adds : goal.returns-in-Adds
returns-in-Adds c =
    chosen_reads line_name line_behind line_parts line_of line_back line_names c.args.words.now c.line_form.new.words c.in_ok-line_form.field-0 form.Adds c.in-Adds.is c.in_ok-line_form.ensures c.adds.new.words c.adds.result c.adds.ensures

pub returns-in-Unites : goal.returns-in-Unites
returns-in-Unites c =
    chosen_reads line_name line_behind line_parts line_of line_back line_names c.args.words.now c.line_form.new.words c.in_ok-line_form.field-0 form.Unites c.in-Unites.is c.in_ok-line_form.ensures c.unites.new.words c.unites.result c.unites.ensures

pub returns-in-Alike : goal.returns-in-Alike
returns-in-Alike c =
    chosen_reads line_name line_behind line_parts line_of line_back line_names c.args.words.now c.line_form.new.words c.in_ok-line_form.field-0 form.Alike c.in-Alike.is c.in_ok-line_form.ensures c.alike.new.words c.alike.result c.alike.ensures

pub returns-in-Gives : goal.returns-in-Gives
returns-in-Gives c =
    chosen_reads line_name line_behind line_parts line_of line_back line_names c.args.words.now c.line_form.new.words c.in_ok-line_form.field-0 form.Gives c.in-Gives.is c.in_ok-line_form.ensures c.gives.new.words c.gives.result c.gives.ensures
