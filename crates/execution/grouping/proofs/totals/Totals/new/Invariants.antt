use Rattle.std.proofs.Common.{[], take}
use Rattle.std.specs.List.{AllZip}
use Rattle.grouping.specs.Totals.{IsHeld}
use Rattle.grouping.proofs.totals.Totals.new.Given as goal

abbrev pub invariant-loop-one : goal.invariant-loop-one
invariant-loop-one l = AllZip (λ a r. IsHeld a.aggregate [] r) (take l.one-index l.added) l.running.items
