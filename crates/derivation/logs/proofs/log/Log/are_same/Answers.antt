use Rattle.std.proofs.Common.{ap, ◌∙◌}
use Rattle.props.specs.Knowledge.{Knowledge, are_same}
use Rattle.logs.proofs.log.Log.are_same.Goals as goal

pub returns : goal.returns
returns c = c.are_same.ensures ∙ ap (λ (K : Knowledge). are_same K c.args.first c.args.second) c.classes.ensures.known
