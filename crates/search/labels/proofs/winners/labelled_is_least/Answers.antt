use Rattle.std.proofs.Common.{}
use Rattle.labels.proofs.Least.{labels_show_least}
use Rattle.labels.proofs.winners.labelled_is_least.Goals as goal

pub returns : goal.returns
returns c = labels_show_least
