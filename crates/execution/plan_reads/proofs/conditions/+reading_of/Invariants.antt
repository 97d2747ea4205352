use Rattle.std.proofs.Common.{length}
use Rattle.plan_reads.proofs.conditions.+reading_of.Given as goal

abbrev pub decreases-reading_of : goal.decreases-reading_of
decreases-reading_of l = length l.classes.now
