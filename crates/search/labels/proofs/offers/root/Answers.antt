use Rattle.std.proofs.Common.{ap, ◌∙◌}
use Rattle.props.specs.Knowledge.{Knowledge}
use Rattle.labels.proofs.offers.root.Goals as goal

pub returns : goal.returns
returns c = c.root.ensures ∙ ap (λ (K : Knowledge). K.root c.args.class) c.classes.ensures.known
