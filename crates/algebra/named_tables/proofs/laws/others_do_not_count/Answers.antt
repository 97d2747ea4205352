use Rattle.named_tables.proofs.SameMeanings.{others_do_not_count}
use Rattle.named_tables.proofs.laws.others_do_not_count.Goals as goal

pub returns : goal.returns
returns c = others_do_not_count
