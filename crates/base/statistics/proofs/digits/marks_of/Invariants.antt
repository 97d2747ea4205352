use Rattle.statistics.specs.Digits.{AreMarked}
use Rattle.statistics.proofs.digits.marks_of.Given as goal

-- the slots of the rows so far are marked
abbrev pub invariant-loop-row : goal.invariant-loop-row
invariant-loop-row l = AreMarked l.columns l.row l.slots
