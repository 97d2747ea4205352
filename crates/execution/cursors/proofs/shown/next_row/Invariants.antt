use Rattle.cursors.specs.ShownRows.{left_behind, shown_to_come}
use Rattle.cursors.proofs.NextRows.{Reached}
use Rattle.cursors.proofs.shown.next_row.Given as goal

abbrev pub decreases-loop-number : goal.decreases-loop-number
decreases-loop-number l = left_behind l.shown.more

abbrev pub invariant-loop-number : goal.invariant-loop-number
invariant-loop-number l = Reached (shown_to_come l.fn.shown) l.shown l.number
