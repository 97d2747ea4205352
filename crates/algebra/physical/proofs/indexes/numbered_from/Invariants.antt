use Rattle.std.proofs.Common.{◌≡◌, ◌++◌, drop}
use Rattle.physical.specs.Indexes as spec
use Rattle.physical.proofs.indexes.numbered_from.Given as goal

abbrev pub invariant-loop-place : goal.invariant-loop-place
invariant-loop-place l = l.columns.items ++ spec.numbered_from l.first (drop l.place-index l.places) ≡ spec.numbered_from l.first l.places
