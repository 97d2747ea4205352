use Rattle.certificate_text.proofs.WorkedTexts.{certificate_is_spelled, lines_are_spelled, nodes_are_spelled}
use Rattle.certificate_text.proofs.worked.worked_texts.Goals as goal

pub returns-clause-certificate : goal.returns-clause-certificate
returns-clause-certificate c = certificate_is_spelled

pub returns-clause-lines : goal.returns-clause-lines
returns-clause-lines c = lines_are_spelled

pub returns-clause-nodes : goal.returns-clause-nodes
returns-clause-nodes c = nodes_are_spelled
