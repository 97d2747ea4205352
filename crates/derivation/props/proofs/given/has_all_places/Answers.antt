use Rattle.std.proofs.Common.{sym, ◌∙◌}
use Rattle.props.proofs.Places.{all_places}
use Rattle.props.proofs.given.has_all_places.Goals as goal

pub returns : goal.returns
returns c = c.has_each_place.ensures ∙ sym (all_places c.args.table.now.first_column c.args.places.now c.args.set.now)
