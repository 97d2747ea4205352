use Rattle.plan_reads.proofs.OperatorReadings.{joined-reads}
use Rattle.plan_reads.proofs.operators.joined.Goals as goal

pub returns : goal.returns
returns c = λ K L a b left right.
    joined-reads K L a b c.args.left.now c.args.right.now _ _ _ _ _ c.args.matching.now c.in_ok-joined_columns.ensures c.in_ok-pair.ensures c.as_slice.ensures.value c.in_ok-pairs.ensures c.in_ok-read.ensures left right
