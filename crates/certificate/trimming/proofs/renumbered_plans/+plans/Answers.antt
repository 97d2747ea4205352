use Rattle.std.proofs.Common.{}
use Rattle.trimming.specs.Kept.{number_in}
use Rattle.trimming.proofs.Plans.{plan_at}
use Rattle.trimming.proofs.renumbered_plans.+plans.Goals as goal

pub renumbered_plan-returns : goal.renumbered_plan-returns
renumbered_plan-returns t c =
    plan_at (number_in c.args.kept.now.numbers.items) c.args.plan.now c.as_slice.result.now c.in_ok-inputs.inputs c.in_ok-node.node c.as_slice.ensures c.in_ok-inputs.ensures c.in_ok-node.ensures
