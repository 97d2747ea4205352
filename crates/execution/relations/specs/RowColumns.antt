-- Columns that are looked up once for many rows.
use Rattle.std.specs.Prelude.{ℕ, ℤ, [], length, slice_index_or, List, Option, Some, None}
use Rattle.std.specs.Borrow.{Bor}
use Rattle.values.specs.declared.value.Value.{Value}
use Rattle.values.specs.declared.value.Value.TheVariants as value
use Rattle.values.specs.Cells.{value_of}
use Rattle.query.specs.Rows.{value_at}
use Rattle.store.specs.NumberColumns.{number_at}
use Rattle.relations.specs.declared.number_column.NumberColumn.{NumberColumn}
use Rattle.relations.specs.declared.row_columns.RowColumn.{RowColumn}
use Rattle.relations.specs.declared.row_columns.RowColumn.TheVariants.{Known, Numbers, Placed}

-- the number in a table of the row with a number; past the end of a list of them the one past the table's
abbrev pub table_row : Option (Bor (List ℕ)) → ℕ → ℕ → ℕ
table_row None none n = n
table_row (Some rows) none n = slice_index_or rows.now n none

-- the value of a column of numbers at a row; Null past the end
abbrev pub number_value : NumberColumn → ℕ → Value
number_value c n = number_at c.numbers (table_row c.rows (length c.numbers.known.now) n)

-- the value of a column at a row
abbrev pub column_value : RowColumn → ℕ → Value
column_value (Known cell) n = value_of cell
column_value (Numbers c) n = number_value c n
column_value (Placed part place) n = value_at place (slice_index_or part.now n [])

-- a number, or Null where there is none
abbrev pub int_or_null : Option ℤ → Value
int_or_null None = value.Null
int_or_null (Some n) = value.Int n
