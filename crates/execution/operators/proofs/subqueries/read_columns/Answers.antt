use Rattle.std.proofs.Common.{arith}
use Rattle.physical.specs.Outputs.{plan_output}
use Rattle.operators.proofs.MovedRows.{readings-next}
use Rattle.operators.proofs.subqueries.read_columns.Goals as goal

pub loop-plan-preserved : goal.loop-plan-preserved
loop-plan-preserved c = λ D.
    readings-next (plan_output c.args.instances.now D) c.args.plans.now c.loop-plan.reads.items c.push.new.self.items c.loop-plan.plan-index c.plan-item.result c.in_ok-free_columns.field-0
    (omega arith) c.plan-item.is (c.loop-plan.invariant D) (c.in_ok-free_columns.ensures D) c.in_ok-push.ensures.items
