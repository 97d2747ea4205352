use Rattle.store.proofs.IndexLists.{AreInOrder}
use Rattle.store.proofs.indexes.is_sorted.Given as goal

abbrev pub invariant-loop-row : goal.invariant-loop-row
invariant-loop-row l = AreInOrder l.rows l.places l.row
