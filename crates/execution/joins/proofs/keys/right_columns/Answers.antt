use Rattle.std.proofs.Common.{arith}
use Rattle.joins.specs.Keys.{right_at}
use Rattle.joins.proofs.KeyColumns.{next-column}
use Rattle.joins.proofs.keys.right_columns.Goals as goal

pub loop-key-preserved : goal.loop-key-preserved
loop-key-preserved c = λ n.
    next-column (right_at c.args.right.now n) n c.args.keys.now c.loop-key.columns.items _ c.right_column.result c.loop-key.key-index _ (omega arith) c.in_ok-push.ensures.items (c.loop-key.invariant n) (c.right_column.ensures n)
