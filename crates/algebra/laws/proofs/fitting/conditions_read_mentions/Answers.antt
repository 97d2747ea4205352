use Rattle.std.proofs.Common.{}
use Rattle.laws.proofs.Mentions.{conditions_read}
use Rattle.laws.proofs.fitting.conditions_read_mentions.Goals as goal

pub returns : goal.returns
returns c = conditions_read
