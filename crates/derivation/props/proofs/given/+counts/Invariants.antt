use Rattle.std.proofs.Common.{length}
use Rattle.props.proofs.given.+counts.Given as goal

abbrev pub decreases-counts : goal.decreases-counts
decreases-counts l = length l.added.now
