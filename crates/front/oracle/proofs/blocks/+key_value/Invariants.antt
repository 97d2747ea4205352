use Rattle.std.proofs.Common.{length}
use Rattle.oracle.proofs.blocks.+key_value.Given as goal

abbrev pub decreases-key_value : goal.decreases-key_value
decreases-key_value l = length l.keys.now
