use Rattle.plan_reads.proofs.KnownReadings.{table-reads}
use Rattle.plan_reads.proofs.readings.Reading.of_instance.Goals as goal

pub returns : goal.returns
returns c = λ D. table-reads c.args.instances.now c.args.instance D _ _ c.in_ok-of_instance.ensures
