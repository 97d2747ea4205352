use Rattle.std.proofs.Common.{◌≡◌, take, map}
use Rattle.binder.proofs.selects.items.Given as goal

abbrev pub invariant-loop-output : goal.invariant-loop-output
invariant-loop-output l = l.items ≡ map (λ o. o.item) (take l.output-index l.outputs)
