use Rattle.store.proofs.Rising.{Rises}
use Rattle.store.proofs.unique.rises.Given as goal

abbrev pub invariant-loop-row : goal.invariant-loop-row
invariant-loop-row l = Rises l.rows l.places l.row l.last
