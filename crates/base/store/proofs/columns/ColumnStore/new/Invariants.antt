use Rattle.std.proofs.Common.{◌≡◌, map, take}
use Rattle.std.specs.List.{AllByRecursion}
use Rattle.store.specs.StoredColumns.{HasCells}
use Rattle.store.proofs.ColumnRows.{kinds_of}
use Rattle.store.proofs.columns.ColumnStore.new.Given as goal

abbrev pub invariant-loop-column : goal.invariant-loop-column
invariant-loop-column l = record {
  kinds : kinds_of l.kept.items ≡ map (λ c. c.kind) (take l.column-index l.columns);
  empty : AllByRecursion (HasCells 0) l.kept.items;
}
