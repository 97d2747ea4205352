-- What a schema is, beside its types (this project's profile): its names, its limits, and lists that name columns of their table.
use Rattle.std.specs.Prelude.{◌≡◌, ◌≢◌, ◌<◌, ◌≤◌, ℕ, List, [], length, map, true, slice_index_or}
use Rattle.std.specs.List.{AllByRecursion}
use Rattle.schema.specs.declared.schema.Table.{Table}
use Rattle.schema.specs.declared.schema.Schema.{Schema}
use Rattle.schema.specs.Names.{Name, is_name}

-- no name stands twice
abbrev pub AreDifferent : List Name → Type 0
AreDifferent names = (i j : ℕ) → i < j → j < length names → slice_index_or names i [] ≢ slice_index_or names j []

-- a list of a table that has so many columns: up to 8 of them, each once
pub record IsColumnList (columns : ℕ) (places : List ℕ) : Type 0 where
  pub some : 0 < length places
  pub few : length places ≤ 8
  pub below : AllByRecursion (λ p. p < columns) places
  pub different : (i j : ℕ) → i < j → j < length places → slice_index_or places i 0 ≢ slice_index_or places j 0

pub record AreLists (columns : ℕ) (lists : List (List ℕ)) : Type 0 where
  pub few : length lists ≤ 16
  pub each : AllByRecursion (IsColumnList columns) lists

pub record IsTable (t : Table) : Type 0 where
  pub named : is_name t.name ≡ true
  pub some : 0 < length t.columns
  pub few : length t.columns ≤ 64
  pub columns_named : AllByRecursion (λ c. is_name c.name ≡ true) t.columns
  pub different : AreDifferent (map (λ c. c.name) t.columns)
  pub unique : AreLists (length t.columns) t.unique
  pub indexes : AreLists (length t.columns) t.indexes

pub record IsSchema (s : Schema) : Type 0 where
  pub few : length s.tables ≤ 64
  pub different : AreDifferent (map (λ t. t.name) s.tables)
  pub tables : AllByRecursion IsTable s.tables
