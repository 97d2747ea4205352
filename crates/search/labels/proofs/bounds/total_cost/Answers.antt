use Rattle.std.proofs.Common.{}
use Rattle.labels.proofs.Bounding.{total_more, total_none}
use Rattle.labels.proofs.bounds.total_cost.Goals as goal

pub loop-estimate-init : goal.loop-estimate-init
loop-estimate-init c = total_none c.args.estimates.now

pub loop-estimate-preserved : goal.loop-estimate-preserved
loop-estimate-preserved c = total_more c.args.estimates.now c.loop-estimate.estimate-index _ c.loop-estimate.total c.sum-total.result c.loop-estimate-test.true c.loop-estimate.invariant c.sum-total.ensures
