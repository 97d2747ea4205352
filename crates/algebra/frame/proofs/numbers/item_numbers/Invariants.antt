use Rattle.std.proofs.Common.{◌≡◌, map, take}
use Rattle.query.specs.Bound as bound
use Rattle.frame.specs.Lent.{scope_of}
use Rattle.frame.proofs.numbers.item_numbers.Given as goal

abbrev pub invariant-loop-item : goal.invariant-loop-item
invariant-loop-item l = l.numbers.items ≡ map (bound.item_number (scope_of l.scope)) (take l.item-index l.items)
