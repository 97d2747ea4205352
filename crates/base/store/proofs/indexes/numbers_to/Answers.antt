use Rattle.std.proofs.Common.{sym}
use Rattle.store.proofs.IndexLists.{numbers_more}
use Rattle.store.proofs.indexes.numbers_to.Goals as goal

pub loop-number-preserved : goal.loop-number-preserved
loop-number-preserved c = rw (c.in_ok-push.ensures.items, c.loop-number.invariant) (sym (numbers_more c.loop-number.number))
