-- The statistics of a database: rows and different keys are counted, and pages hold so many rows of a table or entries of an index.
use Rattle.std.specs.Prelude.{ℕ, List, length, map, zip}
use Rattle.std.specs.Int.{div_ceil}
use Rattle.std.specs.List.{range_with_len}
use Rattle.std.specs.Set.{distinct_count}
use Rattle.schema.specs.declared.schema.Table.{Table}
use Rattle.schema.specs.Databases.{Row, Stored, values_at}
use Rattle.store.specs.Keys.{key_eq}
use Rattle.statistics.specs.declared.counts.TableColumn.{TableColumn}
use Rattle.statistics.specs.declared.counts.IndexStatistics.{IndexStatistics}
use Rattle.statistics.specs.declared.counts.TableStatistics.{TableStatistics}
use Rattle.statistics.specs.declared.counts.Statistics.{Statistics}
use Rattle.statistics.specs.ColumnKeys.{column_keys}

-- how many different keys the rows have at the places: Null is the same as Null
abbrev pub different_keys : List Row → List ℕ → ℕ
different_keys rows places = distinct_count key_eq (map (values_at places) rows)

-- of the index with these places: a page holds 100 entries
abbrev pub index_counts : List Row → List ℕ → IndexStatistics
index_counts rows places = record { keys = different_keys rows places; pages = div_ceil (length rows) 100 }

-- a page holds 50 rows
abbrev pub table_counts : List TableColumn → ℕ → List Row → Table → TableStatistics
table_counts counted number rows table = record {
  rows = length rows;
  pages = div_ceil (length rows) 50;
  indexes = map (index_counts rows) table.indexes;
  column_keys = column_keys counted number table rows;
}

-- of each table, by its number, with its rows
abbrev pub tables_counts : List TableColumn → List Table → List (List Row) → List TableStatistics
tables_counts counted tables D = map (λ t. table_counts counted t.0 t.1.1 t.1.0) (zip (range_with_len 0 (length tables)) (zip tables D))

-- with the keys of these columns
abbrev pub counts_of : List TableColumn → Stored → Statistics
counts_of counted D = record { tables = tables_counts counted D.schema.tables D.tables }
