-- Tables, rows, and what a term is in an environment.
-- Bags of rows, Null and environments: Guagliardo and Libkin, PVLDB 11(1), 2017. Columns by level and place are this
-- project's profile of SQL.
use Rattle.std.specs.Prelude.{ℕ, ◌+◌, Bool, not, if◌then◌else◌, List, [], ◌∷◌, length, map, filter, replicate, slice_index_or}
use Rattle.std.specs.Ordering.{is_eq}
use Rattle.std.specs.Cmp.Lexicographic.{slice_cmp}
use Rattle.values.specs.declared.value.Value.{Value}
use Rattle.values.specs.declared.value.Value.TheVariants as value
use Rattle.values.specs.Order.{order}
use Rattle.schema.specs.declared.schema.Schema.{Schema}
use Rattle.schema.specs.Databases.{Row, Database, Stored, HaveWidth}
use Rattle.query.specs.declared.query.Column.{Column}
use Rattle.query.specs.declared.query.Term.{Term}
use Rattle.query.specs.declared.query.Term.TheVariants as term

-- ---- tables

-- the rows of each table, and how many columns it has, by its place in the schema
pub record Tables : Type 0 where
  pub rows : ℕ → List Row
  pub width : ℕ → ℕ

-- the tables of a database of the schema
abbrev pub tables_of : Schema → Database → Tables
tables_of S D = record {
  rows = λ t. slice_index_or D t [];
  width = λ t. slice_index_or (map (λ entry. length entry.columns) S.tables) t 0;
}

-- the same of a database that has its schema with it
abbrev pub tables_in : Stored → Tables
tables_in d = tables_of d.schema d.tables

-- each row of a table has a value for each of its columns
abbrev pub IsFitting : Tables → Type 0
IsFitting D = (t : ℕ) → HaveWidth (D.width t) (D.rows t)

-- ---- terms

-- the rows that a condition sees, the innermost first
abbrev pub Env : Type 0
Env = List Row

-- a row's value at a place
abbrev pub value_at : ℕ → Row → Value
value_at place r = slice_index_or r place value.Null

-- the value at the column's place in the row at its level
abbrev pub column : Column → Env → Value
column c e = value_at c.place (slice_index_or e c.level [])

-- what a term is
abbrev pub term_value : Term → Env → Value
term_value (term.Column c) e = column c e
term_value (term.Literal v) e = v

-- ---- bags of rows

-- a row of Nulls alone
abbrev pub nulls : ℕ → Row
nulls width = replicate width value.Null

-- the same value at each place, so Null is the same as Null
abbrev pub same_rows : Row → Row → Bool
same_rows a b = is_eq (slice_cmp order a b)

-- how often a row stands in a list
abbrev pub count : Row → List Row → ℕ
count r [] = 0
count r (s ∷ rows) = (if same_rows r s then 1 else 0) + count r rows

-- one of each, as first seen
abbrev pub distinct : List Row → List Row
distinct [] = []
distinct (r ∷ rows) = r ∷ filter (λ s. not (same_rows r s)) (distinct rows)
