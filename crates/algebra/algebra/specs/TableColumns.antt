-- The columns of table instances, and aggregates that stand apart from them.
use Rattle.std.specs.Prelude.{ℕ, Bool, not, ◌&&◌, List}
use Rattle.std.specs.List.{list_any, list_all}
use Rattle.query.specs.declared.query.TableInstance.{TableInstance}
use Rattle.algebra.specs.declared.expr.Aggregation.{Aggregation}
use Rattle.algebra.specs.Columns.{ColumnSet, has}
use Rattle.algebra.specs.Expressions.{instance_columns, aggregate_reads}

-- whether a column is one of a table instance. Each value there is one of a table or Null, whatever operator gives it, where the
-- values that aggregates make stand in other columns.
abbrev pub is_table_column : List TableInstance → ColumnSet
is_table_column instances c = list_any (λ t. has (instance_columns t) c) instances

-- an aggregate reads such columns alone, and stands in none
abbrev pub is_apart : ColumnSet → Aggregation → Bool
is_apart stored a = list_all stored (aggregate_reads a.aggregate) && not (stored a.column)

abbrev pub are_apart : ColumnSet → List Aggregation → Bool
are_apart stored added = list_all (is_apart stored) added
