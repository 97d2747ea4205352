-- What statistics say of a query's table instances, and which of them has a column. A look-up that finds nothing counts 0.
use Rattle.std.specs.Prelude.{ℕ, ◌-◌, ◌==◌, ◌&&◌, Bool, false, not, nat_lt, if◌then◌else◌, List, [], ◌∷◌, length, slice_get, slice_index_or, Option, Some, None}
use Rattle.std.specs.List.{list_any}
use Rattle.query.specs.declared.query.TableInstance.{TableInstance}
use Rattle.algebra.specs.Columns.{ColumnSet, is_same_set}
use Rattle.statistics.specs.declared.counts.IndexStatistics.{IndexStatistics}
use Rattle.statistics.specs.declared.counts.TableStatistics.{TableStatistics}
use Rattle.statistics.specs.declared.counts.Statistics.{Statistics}

-- ---- numbers

abbrev pub rows_in : Option TableStatistics → ℕ
rows_in None = 0
rows_in (Some t) = t.rows

abbrev pub pages_in : Option TableStatistics → ℕ
pages_in None = 0
pages_in (Some t) = t.pages

abbrev pub index_in : Option TableStatistics → ℕ → Option IndexStatistics
index_in None i = None
index_in (Some t) i = slice_get t.indexes i

abbrev pub column_keys_in : Option TableStatistics → ℕ → Option ℕ
column_keys_in None place = None
column_keys_in (Some t) place = slice_index_or t.column_keys place None

abbrev pub keys_in : Option IndexStatistics → ℕ
keys_in None = 0
keys_in (Some i) = i.keys

abbrev pub index_pages_in : Option IndexStatistics → ℕ
index_pages_in None = 0
index_pages_in (Some i) = i.pages

-- of a table instance's table: its rows and pages, and the different keys and the pages of an index
abbrev pub rows_of : Statistics → TableInstance → ℕ
rows_of S t = rows_in (slice_get S.tables t.table)

abbrev pub pages_of : Statistics → TableInstance → ℕ
pages_of S t = pages_in (slice_get S.tables t.table)

abbrev pub index_of : Statistics → TableInstance → ℕ → Option IndexStatistics
index_of S t i = index_in (slice_get S.tables t.table) i

abbrev pub keys_of : Statistics → TableInstance → ℕ → ℕ
keys_of S t i = keys_in (index_of S t i)

-- of a column by its place, where they are known
abbrev pub column_keys_of : Statistics → TableInstance → ℕ → Option ℕ
column_keys_of S t place = column_keys_in (slice_get S.tables t.table) place

abbrev pub index_pages_of : Statistics → TableInstance → ℕ → ℕ
index_pages_of S t i = index_pages_in (index_of S t i)

-- ---- columns

-- the column is one of the table instance's
abbrev pub owns : TableInstance → ColumnSet
owns t c = not (nat_lt c t.first_column) && nat_lt (c - t.first_column) (length t.entry.columns)

-- the table instance whose column it is
abbrev pub owner : List TableInstance → ℕ → Option TableInstance
owner [] c = None
owner (t ∷ instances) c = if owns t c then Some t else owner instances c

-- ---- indexes

-- the places of an index's columns; none where the table has no such index
abbrev pub index_places : TableInstance → ℕ → List ℕ
index_places t i = slice_index_or t.entry.indexes i []

-- these places, in any order, are a unique list of the table
abbrev pub is_unique : TableInstance → List ℕ → Bool
is_unique t places = list_any (λ list. is_same_set places list) t.entry.unique

-- the list is of the place alone
abbrev pub is_over : ℕ → List ℕ → Bool
is_over p [] = false
is_over p (q ∷ []) = q == p
is_over p (q ∷ r ∷ more) = false
