use Rattle.std.proofs.Common.{}
use Rattle.costs.proofs.CheaperInputs.{nodes_are_monotone}
use Rattle.costs.proofs.monotone.nodes_are_monotone.Goals as goal

pub returns : goal.returns
returns c = nodes_are_monotone
