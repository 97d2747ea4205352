-- The columns of a schema, by the numbers of their tables and their places there.
use Rattle.std.specs.Prelude.{ℕ, List, length, map, flat_map}
use Rattle.std.specs.List.{range_with_len, enumerate_from}
use Rattle.schema.specs.declared.schema.Table.{Table}
use Rattle.schema.specs.declared.schema.Schema.{Schema}
use Rattle.statistics.specs.declared.counts.TableColumn.{TableColumn}

-- each place of the table with this number
abbrev pub table_columns : ℕ → Table → List TableColumn
table_columns number t = map (λ place. record { table = number; place = place }) (range_with_len 0 (length t.columns))

-- table after table
abbrev pub every_column : Schema → List TableColumn
every_column schema = flat_map (λ t. table_columns t.0 t.1) (enumerate_from 0 schema.tables)
