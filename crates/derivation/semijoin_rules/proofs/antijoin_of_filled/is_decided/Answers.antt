use Rattle.std.proofs.Common.{refl, ap, sym, ◌∙◌}
use Rattle.props.specs.Knowledge.{known}
use Rattle.semijoin_rules.specs.AntijoinOfFilled.{filled_columns, compares_filled}
use Rattle.semijoin_rules.proofs.FilledConditions.{compares-Compare, compares-else}
use Rattle.semijoin_rules.proofs.antijoin_of_filled.is_decided.Goals as goal

pub returns-then-is_filled : goal.returns-then-is_filled
returns-then-is_filled c =
    let N = filled_columns (known c.args.classes) c.args.left c.args.right in
    c.is_filled-then-is_filled.ensures ∙ sym (ap (λ d. compares_filled d N) c.in-Compare.is ∙ compares-Compare c.in-Compare.field-0 c.in-Compare.a c.in-Compare.b N ∙ rw (sym c.is_filled.ensures, c.if-is_filled.true) refl)

pub returns-else-is_filled : goal.returns-else-is_filled
returns-else-is_filled c =
    let N = filled_columns (known c.args.classes) c.args.left c.args.right in
    sym (ap (λ d. compares_filled d N) c.in-Compare.is ∙ compares-Compare c.in-Compare.field-0 c.in-Compare.a c.in-Compare.b N ∙ rw (sym c.is_filled.ensures, c.if-is_filled.false) refl)

pub returns-in_default : goal.returns-in_default
returns-in_default c = sym (compares-else c.args.condition.now c.in_default.not-Compare _)
