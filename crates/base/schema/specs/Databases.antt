-- When a database satisfies a schema (this project's profile; keys and Null as in SQL).
use Rattle.std.specs.Prelude.{◌≡◌, ◌≢◌, ◌<◌, ◌≤◌, ℕ, false, List, [], ◌∷◌, length, map, slice_index_or, FitsSigned}
use Rattle.std.specs.Int.{w64}
use Rattle.std.specs.List.{list_any, AllByRecursion}
use Rattle.values.specs.declared.value.Value.{Value}
use Rattle.values.specs.declared.value.Value.TheVariants as value
use Rattle.values.specs.Truth.{is_null}
use Rattle.schema.specs.declared.schema.Kind.TheVariants as kind
use Rattle.schema.specs.declared.schema.Column.{Column}
use Rattle.schema.specs.declared.schema.Table.{Table}
use Rattle.schema.specs.declared.schema.Schema.{Schema}

-- a row's values, in the order of its table's columns
abbrev pub Row : Type 0
Row = List Value

-- each row has so many values
abbrev pub HaveWidth : ℕ → List Row → Type 0
HaveWidth width rows = AllByRecursion (λ r. length r ≡ width) rows

-- the rows of each table, in the order of the schema
abbrev pub Database : Type 0
Database = List (List Row)

-- a schema, with the rows of its tables
pub record Stored : Type 0 where
  pub schema : Schema
  pub tables : Database

-- the most rows that a table may have
abbrev pub most_rows : ℕ
most_rows = 1000000

-- the value may stand in the column
abbrev pub FitsColumn : Column → Value → Type 0
FitsColumn c value.Null = c.not_null ≡ false
FitsColumn c (value.Int n) = (c.kind ≡ kind.Int) × FitsSigned w64 n
FitsColumn c (value.Text t) = c.kind ≡ kind.Text

-- the row has a value for each column
abbrev pub FitsColumns : List Column → Row → Type 0
FitsColumns [] [] = Unit {0}
FitsColumns [] (v ∷ vs) = ⊥
FitsColumns (c ∷ cs) [] = ⊥
FitsColumns (c ∷ cs) (v ∷ vs) = FitsColumn c v × FitsColumns cs vs

-- a row's values at the places
abbrev pub values_at : List ℕ → Row → Row
values_at places r = map (λ p. slice_index_or r p value.Null) places

-- no two rows have the same values at the places, those with a Null among them apart
abbrev pub IsUnique : List Row → List ℕ → Type 0
IsUnique rows places = (i j : ℕ) → i < j → j < length rows
    → list_any is_null (values_at places (slice_index_or rows i [])) ≡ false
    → values_at places (slice_index_or rows i []) ≢ values_at places (slice_index_or rows j [])

pub record SatisfiesTable (t : Table) (rows : List Row) : Type 0 where
  pub few : length rows ≤ most_rows
  pub fit : AllByRecursion (FitsColumns t.columns) rows
  pub unique : AllByRecursion (IsUnique rows) t.unique

abbrev pub SatisfyTables : List Table → Database → Type 0
SatisfyTables [] [] = Unit {0}
SatisfyTables [] (rows ∷ D) = ⊥
SatisfyTables (t ∷ ts) [] = ⊥
SatisfyTables (t ∷ ts) (rows ∷ D) = SatisfiesTable t rows × SatisfyTables ts D

-- each table's rows are such as its entry allows
abbrev pub Satisfies : Schema → Database → Type 0
Satisfies S D = SatisfyTables S.tables D
