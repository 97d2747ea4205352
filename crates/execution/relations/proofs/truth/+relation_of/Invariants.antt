use Rattle.std.proofs.Common.{length}
use Rattle.relations.proofs.truth.+relation_of.Given as goal

abbrev pub decreases-relation_of : goal.decreases-relation_of
decreases-relation_of l = length l.classes.now
