use Rattle.std.proofs.Common.{length}
use Rattle.std.specs.List.{AllByRecursion}
use Rattle.closure.specs.Operators.{IsUnlike}
use Rattle.closure.proofs.standing.class_among.Given as goal

-- none of them has the expression if none of those that are left has
abbrev pub invariant-lines : goal.invariant-lines
invariant-lines l = AllByRecursion (IsUnlike l.log.log l.expr) l.lines → AllByRecursion (IsUnlike l.log.log l.expr) l.fn.lines

abbrev pub decreases-lines : goal.decreases-lines
decreases-lines l = length l.lines
