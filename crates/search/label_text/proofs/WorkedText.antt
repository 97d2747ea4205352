-- The text that is spelled out, by computation.
use Rattle.std.proofs.Common.{refl}
use Rattle.std.specs.Fmt.{digits}
use Rattle.label_text.specs.WorkedText.{LabelsAreSpelled}

pub labels_are_spelled : LabelsAreSpelled
unfolding digits
labels_are_spelled = (refl, refl, refl)
