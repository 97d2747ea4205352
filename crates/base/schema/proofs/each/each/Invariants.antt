use Rattle.std.proofs.Common.{◌≡◌, drop}
use Rattle.schema.specs.Each.{each}
use Rattle.schema.proofs.Loops.{after}
use Rattle.schema.proofs.each.each.Given as goal

abbrev pub invariant-loop-item : goal.invariant-loop-item
invariant-loop-item g l = after l.outputs (each (g.T.ReadsItem.item_in l.reader) (drop l.item-index l.items)) ≡ each (g.T.ReadsItem.item_in l.reader) l.items
