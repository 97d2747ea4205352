use Rattle.std.proofs.Common.{arith}
use Rattle.store.proofs.IndexLists.{sorted_already}
use Rattle.store.proofs.indexes.is_sorted.Goals as goal

pub returns : goal.returns
returns c = λ t. sorted_already c.args.rows.now c.args.places.now c.loop-row.row (omega arith) c.loop-row.invariant
