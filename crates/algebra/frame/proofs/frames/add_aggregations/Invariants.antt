use Rattle.std.proofs.Common.{◌≡◌, ◌++◌, drop}
use Rattle.frame.specs.Frames as spec
use Rattle.frame.proofs.frames.add_aggregations.Given as goal

abbrev pub invariant-loop-item : goal.invariant-loop-item
invariant-loop-item l = l.added.items ++ spec.aggregations l.numbers (drop l.item-index l.items) ≡ l.fn.added.items ++ spec.aggregations l.numbers l.items
