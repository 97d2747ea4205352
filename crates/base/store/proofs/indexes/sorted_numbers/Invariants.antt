use Rattle.std.proofs.Common.{◌≡◌, map, take}
use Rattle.store.proofs.indexes.sorted_numbers.Given as goal

abbrev pub invariant-loop-row : goal.invariant-loop-row
invariant-loop-row l = l.numbers.items ≡ map (λ k. k.number) (take l.row-index l.row-items)
