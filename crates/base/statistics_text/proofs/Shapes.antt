-- What is counted has the shape of its schema.
use Rattle.std.proofs.Common.{ℕ, ◌+◌, List, [], ◌∷◌, length, map}
use Rattle.std.specs.List.{range_with_len, zip}
use Rattle.std.proofs.lemmas.List.{length-map}
use Rattle.std.proofs.lemmas.List.FromFn.{length-map-range_with_len}
use Rattle.schema.specs.Databases.{Row, Database, SatisfyTables}
use Rattle.schema.specs.Each.{Pairs}
use Rattle.schema.specs.declared.schema.Table.{Table}
use Rattle.statistics.specs.ColumnKeys.{known_keys, is_counted}
use Rattle.statistics.specs.Counting.{index_counts, table_counts}
use Rattle.statistics.specs.declared.counts.TableColumn.{TableColumn}
use Rattle.statistics_text.specs.Shapes.{FitsTable, CountsFit}

table_fits : (counted : List TableColumn) (number : ℕ) (rows : List Row) (t : Table) → FitsTable t (table_counts counted number rows t)
table_fits counted number rows t = record {
  indexes = length-map t.indexes (index_counts rows);
  columns = length-map-range_with_len (λ place. known_keys t rows place (is_counted counted number place)) 0 (length t.columns);
}

tables_fit : (counted : List TableColumn) (first : ℕ) (ts : List Table) (D : Database) → SatisfyTables ts D → Pairs FitsTable ts (map (λ t. table_counts counted t.0 t.1.1 t.1.0) (zip (range_with_len first (length ts)) (zip ts D)))
tables_fit counted first [] [] h = tt
tables_fit counted first [] (rows ∷ D) h = absurd h
tables_fit counted first (t ∷ ts) [] h = absurd h
tables_fit counted first (t ∷ ts) (rows ∷ D) h = (table_fits counted first rows t, tables_fit counted (first + 1) ts D h.1)

pub counts_fit : CountsFit
counts_fit counted d h = tables_fit counted 0 d.schema.tables d.tables h
