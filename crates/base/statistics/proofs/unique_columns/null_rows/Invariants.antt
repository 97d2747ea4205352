use Rattle.std.proofs.Common.{◌≡◌, ◌≤◌, take}
use Rattle.std.specs.List.{count_by}
use Rattle.statistics.specs.UniqueLists as spec
use Rattle.statistics.proofs.unique_columns.null_rows.Given as goal

-- the Nulls of the rows so far
abbrev pub invariant-loop-row : goal.invariant-loop-row
invariant-loop-row l = (l.nulls ≡ count_by (spec.is_null_at l.place) (take l.row l.rows)) × (l.nulls ≤ l.row)
