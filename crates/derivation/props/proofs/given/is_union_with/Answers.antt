use Rattle.std.proofs.Common.{◌∙◌, sym}
use Rattle.props.proofs.Unions.{not-part}
use Rattle.props.proofs.given.is_union_with.Goals as goal

pub returns-else-is_within : goal.returns-else-is_within
returns-else-is_within c =
    c.if-is_within.false ∙ not-part (λ other. other.items) c.args.key.now c.args.one.now c.args.others.now (sym c.is_within.ensures ∙ c.if-is_within.false)
