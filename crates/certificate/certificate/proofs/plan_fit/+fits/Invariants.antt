use Rattle.std.proofs.Common.{◌≡◌, map, drop}
use Rattle.algebra.specs.Columns.{columns_at}
use Rattle.certificate.specs.Replay.{plan_fits, inputs_fit}
use Rattle.certificate.proofs.plan_fit.+fits.Given as goal

abbrev pub invariant-inputs_fit-loop-i : goal.invariant-inputs_fit-loop-i
invariant-inputs_fit-loop-i l = inputs_fit (map (plan_fits l.derived.log.now.instances l.derived.log.now.log (columns_at l.derived.columns.now)) l.inputs) l.classes l.number
    ≡ inputs_fit (map (plan_fits l.derived.log.now.instances l.derived.log.now.log (columns_at l.derived.columns.now)) (drop l.i l.inputs)) (drop l.i l.classes) l.after
