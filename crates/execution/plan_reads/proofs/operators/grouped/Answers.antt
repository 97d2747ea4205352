use Rattle.std.proofs.Common.{◌∙◌, ap}
use Rattle.plan_reads.specs.Readings.{also_reading}
use Rattle.plan_reads.proofs.KnownReadings.{restated}
use Rattle.plan_reads.proofs.OperatorReadings.{grouped-reads}
use Rattle.plan_reads.proofs.operators.grouped.Goals as goal

pub returns : goal.returns
returns c = λ K x is.
    restated _ _ _ _ _ c.in_ok-of_groups.ensures
    (ap (λ r. r.free) c.in_ok-input.ensures ∙ ap (λ L. (also_reading c.args.input L).free) (c.as_slice.ensures.value ∙ c.in_ok-read.ensures))
    (grouped-reads K x c.args.input c.args.keys.now c.args.added.now is)
