use Rattle.std.proofs.Common.{map, take}
use Rattle.query.specs.Rows.{Tables}
use Rattle.physical.specs.Outputs.{plan_output}
use Rattle.plan_reads.specs.Readings.{AreReadings}
use Rattle.plan_reads.proofs.plans.+readings.Given as goal

abbrev pub invariant-plan_readings-loop-plan : goal.invariant-plan_readings-loop-plan
invariant-plan_readings-loop-plan l = (D : Tables) → AreReadings (map (plan_output l.instances D) (take l.plan-index l.plans)) l.readings.items
