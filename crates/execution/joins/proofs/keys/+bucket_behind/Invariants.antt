use Rattle.std.proofs.Common.{length}
use Rattle.joins.proofs.keys.+bucket_behind.Given as goal

abbrev pub decreases-bucket_behind : goal.decreases-bucket_behind
decreases-bucket_behind a = length a.columns.now
