use Rattle.std.proofs.Common.{ap, sym, ◌∙◌}
use Rattle.algebra.specs.GivenColumns.{given_columns}
use Rattle.props.specs.Given.{pins}
use Rattle.props.proofs.SingleMatches.{pins-Compare, pins-else}
use Rattle.props.proofs.single.pins.Goals as goal

pub returns-in-Compare : goal.returns-in-Compare
returns-in-Compare c =
    c.equates.ensures ∙ sym (ap (λ d. pins d (given_columns c.args.classes c.args.class) c.args.column) c.in-Compare.is ∙ pins-Compare c.in-Compare.comparison c.in-Compare.a c.in-Compare.b _ _)

pub returns-in_default : goal.returns-in_default
returns-in_default c = sym (pins-else c.args.condition.now c.in_default.not-Compare _ _)
