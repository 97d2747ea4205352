use Rattle.std.proofs.Common.{}
use Rattle.laws.proofs.DistinctRows.{groups_are_distinct}
use Rattle.laws.proofs.rewriting.groups_are_distinct.Goals as goal

pub returns : goal.returns
returns c = groups_are_distinct
