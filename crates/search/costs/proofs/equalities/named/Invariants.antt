use Rattle.std.proofs.Common.{◌≡◌, filter, take}
use Rattle.costs.specs.Equalities as spec
use Rattle.costs.proofs.equalities.named.Given as goal

abbrev pub invariant-loop-column : goal.invariant-loop-column
invariant-loop-column l = l.named.items ≡ filter (spec.names l.equations) (take l.column-index l.columns)
