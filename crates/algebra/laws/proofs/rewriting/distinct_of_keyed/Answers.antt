use Rattle.std.proofs.Common.{}
use Rattle.laws.proofs.DistinctRows.{distinct_of_keyed}
use Rattle.laws.proofs.rewriting.distinct_of_keyed.Goals as goal

pub returns : goal.returns
returns c = distinct_of_keyed
