use Rattle.std.proofs.Common.{◌+◌, ◌*◌, length}
use Rattle.costs.proofs.cardinalities.+rows.Given as goal

abbrev pub decreases-class_rows : goal.decreases-class_rows
decreases-class_rows l = 3 * length l.by.lines.now

abbrev pub decreases-join_rows : goal.decreases-join_rows
decreases-join_rows l = 3 * length l.by.lines.now + 1

abbrev pub decreases-expr_rows : goal.decreases-expr_rows
decreases-expr_rows l = 3 * length l.by.lines.now + 2
