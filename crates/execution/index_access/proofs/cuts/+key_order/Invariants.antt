use Rattle.std.proofs.Common.{length}
use Rattle.index_access.proofs.cuts.+key_order.Given as goal

abbrev pub decreases-key_order : goal.decreases-key_order
decreases-key_order l = length l.columns.now
