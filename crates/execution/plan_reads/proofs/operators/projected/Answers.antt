use Rattle.std.proofs.Common.{◌∙◌, ap}
use Rattle.plan_reads.specs.Readings.{also_reading}
use Rattle.plan_reads.proofs.KnownReadings.{restated}
use Rattle.plan_reads.proofs.OperatorReadings.{projected-reads}
use Rattle.plan_reads.proofs.operators.projected.Goals as goal

pub returns : goal.returns
returns c = λ K x is.
    restated _ _ _ _ _ c.in_ok-copy.ensures
    (ap (λ r. r.free) c.in_ok-input.ensures ∙ ap (λ L. (also_reading c.args.input L).free) c.as_slice.ensures.columns)
    (projected-reads K x c.args.input c.args.columns.now is)
