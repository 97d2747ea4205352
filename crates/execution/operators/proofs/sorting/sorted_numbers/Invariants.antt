use Rattle.std.proofs.Common.{◌≡◌, map, take}
use Rattle.operators.proofs.sorting.sorted_numbers.Given as goal

abbrev pub invariant-loop-row : goal.invariant-loop-row
invariant-loop-row l = l.numbers.items ≡ map (λ k. k.number) (take l.row-index l.row-items)
