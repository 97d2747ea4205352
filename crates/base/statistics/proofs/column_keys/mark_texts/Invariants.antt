use Rattle.std.proofs.Common.{◌≡◌, ◌≤◌, length, take}
use Rattle.statistics.specs.ColumnKeys.{AreMarked, values_in}
use Rattle.statistics.proofs.column_keys.mark_texts.Given as goal

-- the slots of the values so far are marked
abbrev pub invariant-loop-row : goal.invariant-loop-row
invariant-loop-row l = AreMarked (length l.initial.marks) (values_in l.place (take l.row l.rows)) l.marks × (l.values ≡ length (values_in l.place (take l.row l.rows))) × (l.values ≤ l.row)
