use Rattle.std.proofs.Common.{ap}
use Rattle.props.specs.Knowledge.{Knowledge}
use Rattle.labels.proofs.offers.Derived.of.Goals as goal

pub returns-clause-columns : goal.returns-clause-columns
returns-clause-columns c = ap (λ (K : Knowledge). K.columns) c.classes.ensures.known
