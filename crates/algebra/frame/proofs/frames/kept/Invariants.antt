use Rattle.std.proofs.Common.{◌≡◌, ◌++◌, drop}
use Rattle.frame.specs.Frames as spec
use Rattle.frame.specs.Lent.{scope_of}
use Rattle.frame.proofs.frames.kept.Given as goal

abbrev pub invariant-loop-item : goal.invariant-loop-item
invariant-loop-item l = l.numbers.items ++ spec.own_numbers (scope_of l.scope) (drop l.item-index l.items) ≡ spec.own_numbers (scope_of l.scope) l.items
