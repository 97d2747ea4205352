-- When statistics have the shape of a schema.
use Rattle.std.specs.Prelude.{◌≡◌, List, length}
use Rattle.schema.specs.Databases.{Stored, Satisfies}
use Rattle.schema.specs.Each.{Pairs}
use Rattle.schema.specs.declared.schema.Table.{Table}
use Rattle.schema.specs.declared.schema.Schema.{Schema}
use Rattle.statistics.specs.Counting.{counts_of}
use Rattle.statistics.specs.declared.counts.TableColumn.{TableColumn}
use Rattle.statistics.specs.declared.counts.TableStatistics.{TableStatistics}
use Rattle.statistics.specs.declared.counts.Statistics.{Statistics}

-- something is said of each index and of each column of the table
pub record FitsTable (table : Table) (t : TableStatistics) : Type 0 where
  pub indexes : length t.indexes ≡ length table.indexes
  pub columns : length t.column_keys ≡ length table.columns

-- of each table of the schema, and of no other
abbrev pub FitsSchema : Schema → Statistics → Type 0
FitsSchema schema s = Pairs FitsTable schema.tables s.tables

-- what is counted in a database that satisfies its schema has the shape of that schema, whichever columns are counted
abbrev pub CountsFit : Type 0
CountsFit = (counted : List TableColumn) (d : Stored) → Satisfies d.schema d.tables → FitsSchema d.schema (counts_of counted d)
