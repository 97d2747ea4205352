use Rattle.std.proofs.Common.{◌≡◌, ◌-◌, List, length, take}
use Rattle.schema.specs.Databases.{Row}
use Rattle.store.specs.StoredColumns.{with_row}
use Rattle.store.specs.declared.cells.ColumnCells.{ColumnCells}
use Rattle.store.proofs.columns.take_back.Given as goal

abbrev pub invariant-loop-taken : goal.invariant-loop-taken
invariant-loop-taken l = (before : List ColumnCells) (row : Row) → l.initial.columns ≡ with_row before row → length row ≡ l.places → l.columns ≡ with_row before (take (l.places - l.taken) row)
