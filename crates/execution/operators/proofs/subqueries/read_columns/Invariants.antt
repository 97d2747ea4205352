use Rattle.std.proofs.Common.{map, take}
use Rattle.query.specs.Rows.{Tables}
use Rattle.physical.specs.Outputs.{plan_output}
use Rattle.operators.specs.RowReadings.{AreReadings}
use Rattle.operators.proofs.subqueries.read_columns.Given as goal

abbrev pub invariant-loop-plan : goal.invariant-loop-plan
invariant-loop-plan l = (D : Tables) → AreReadings (map (plan_output l.instances D) (take l.plan-index l.plans)) l.reads.items
