use Rattle.std.proofs.Common.{length}
use Rattle.store.proofs.Repeats.{IsSought}
use Rattle.store.proofs.unique.earlier_of.Given as goal

abbrev pub invariant-loop-at : goal.invariant-loop-at
invariant-loop-at l = IsSought l.rows l.places (length l.seen.heads) (length l.seen.olders) l.bucket l.key l.at

abbrev pub decreases-loop-at : goal.decreases-loop-at
decreases-loop-at l = l.at
