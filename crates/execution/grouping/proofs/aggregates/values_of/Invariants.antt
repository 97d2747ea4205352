use Rattle.std.proofs.Common.{◌≡◌, map, take}
use Rattle.values.specs.Cells.{value_of}
use Rattle.grouping.proofs.aggregates.values_of.Given as goal

abbrev pub invariant-loop-group : goal.invariant-loop-group
invariant-loop-group l = map value_of l.cells.items ≡ map (λ r. value_of r.so_far) (take l.group-index l.running)
