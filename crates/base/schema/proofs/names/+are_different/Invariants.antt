use Rattle.std.proofs.Common.{length}
use Rattle.schema.proofs.names.+are_different.Given as goal

abbrev pub decreases-are_different : goal.decreases-are_different
decreases-are_different g l = length l.items.now
