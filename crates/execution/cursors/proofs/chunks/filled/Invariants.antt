use Rattle.std.proofs.Common.{◌≡◌, ◌-◌, ◌++◌}
use Rattle.cursors.specs.Chunks.{selected_from}
use Rattle.cursors.proofs.chunks.filled.Given as goal

abbrev pub decreases-loop-end : goal.decreases-loop-end
decreases-loop-end l = l.count - l.next

abbrev pub invariant-loop-end : goal.invariant-loop-end
invariant-loop-end l = selected_from l.env l.selected l.start ≡ l.chunk.items ++ selected_from l.env l.selected l.next
