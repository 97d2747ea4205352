use Rattle.std.proofs.Common.{◌≡◌, take}
use Rattle.schema.proofs.copies.copy_columns.Given as goal

-- the copies so far are what was gone over
abbrev pub invariant-loop-column : goal.invariant-loop-column
invariant-loop-column l = l.copied ≡ take l.column-index l.columns
