-- Indexes of tables that have been sorted, and those that are accessed.
use Rattle.std.specs.Prelude.{◌≡◌, ℕ, true, List, [], length, slice_get, slice_index_or, Option, Some, None}
use Rattle.schema.specs.Databases.{Row}
use Rattle.store.specs.Indexes.{IsIndex}
use Rattle.query.specs.declared.query.TableInstance.{TableInstance}
use Rattle.algebra.specs.Bags.{Env}
use Rattle.algebra.specs.Columns.{is_subset}
use Rattle.algebra.specs.Expressions.{instance_row}
use Rattle.physical.specs.declared.plan.IndexAccess.{IndexAccess}
use Rattle.physical.specs.Indexes.{accessed_columns, index_columns}
use Rattle.operators.specs.declared.sources.SortedIndex.{SortedIndex}

-- the rows of the table with a number
abbrev pub table_rows : List (List Row) → ℕ → List Row
table_rows tables number = slice_index_or tables number []

abbrev pub IsSortedIndex : List (List Row) → SortedIndex → Type 0
IsSortedIndex tables i = IsIndex (table_rows tables i.table) i.places i.numbers

-- the index with a number of the table of a table instance
abbrev pub IsIndexOf : Option TableInstance → List (List Row) → ℕ → List ℕ → Type 0
IsIndexOf None tables index numbers = ⊥
IsIndexOf (Some t) tables index numbers = IsIndex (table_rows tables t.table) (slice_index_or t.entry.indexes index []) numbers

-- the index is by columns of the table instance, and these are its numbers
pub record IsAccessed (instances : List TableInstance) (tables : List (List Row)) (a : IndexAccess) (numbers : List ℕ) : Type 0 where
  pub own : is_subset (index_columns instances a) (accessed_columns instances a) ≡ true
  pub index : IsIndexOf (slice_get instances a.instance) tables a.index numbers

-- so many rows with numbers are those with their numbers of the table of a table instance
abbrev pub AreTableRows : Option TableInstance → List (List Row) → Env → ℕ → (ℕ → Env) → Type 0
AreTableRows None tables e count row = Unit {0}
AreTableRows (Some t) tables e count row = (count ≡ length (table_rows tables t.table)) × ((n : ℕ) → row n ≡ instance_row t (slice_index_or (table_rows tables t.table) n []) e)
