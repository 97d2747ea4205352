use Rattle.label_text.proofs.WorkedText.{labels_are_spelled}
use Rattle.label_text.proofs.worked.worked_text.Goals as goal

pub returns : goal.returns
returns c = labels_are_spelled
