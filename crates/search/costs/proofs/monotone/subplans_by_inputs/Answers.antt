use Rattle.costs.proofs.NodeEstimates.{subplans-root}
use Rattle.costs.proofs.monotone.subplans_by_inputs.Goals as goal

pub returns : goal.returns
returns c = subplans-root
