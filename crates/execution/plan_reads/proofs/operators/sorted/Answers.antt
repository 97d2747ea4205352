use Rattle.std.proofs.Common.{◌∙◌, ap, sym, subst, map, arith}
use Rattle.std.proofs.lemmas.List.{take_all}
use Rattle.plan_reads.specs.Readings.{IsReading, also_reading}
use Rattle.plan_reads.proofs.KnownReadings.{if_ok}
use Rattle.plan_reads.proofs.OperatorReadings.{sorted-reads}
use Rattle.plan_reads.proofs.operators.sorted.Goals as goal

pub returns : goal.returns
returns c = λ K x is.
    if_ok c.also_reading.result (λ r found.
    subst (IsReading K _)
    (sym (found ∙ ap (also_reading c.args.input) (c.as_slice.ensures.value ∙ c.loop-key.invariant ∙ ap (map (λ k. k.column)) (take_all c.loop-key.key-index c.args.keys.now (omega arith)))))
    (sorted-reads K x c.args.input c.args.keys.now is)) c.also_reading.ensures
