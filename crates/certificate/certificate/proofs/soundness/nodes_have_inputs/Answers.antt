use Rattle.certificate.proofs.NodeInputs.{nodes_have_inputs}
use Rattle.certificate.proofs.soundness.nodes_have_inputs.Goals as goal

pub returns : goal.returns
returns c = nodes_have_inputs
