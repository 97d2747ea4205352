use Rattle.std.proofs.Common.{sym, ◌∙◌}
use Rattle.props.proofs.Places.{has_places}
use Rattle.props.proofs.given.is_at.Goals as goal

pub returns : goal.returns
returns c = c.is_at_one.ensures ∙ sym (has_places c.args.table.now.first_column c.args.places.now c.args.column)
