use Rattle.std.proofs.Common.{◌≡◌, take, map}
use Rattle.binder.proofs.statement.names.Given as goal

abbrev pub invariant-loop-output : goal.invariant-loop-output
invariant-loop-output l = l.names ≡ map (λ o. o.name) (take l.output-index l.outputs)
