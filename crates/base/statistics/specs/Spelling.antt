-- When bytes are the JSON of statistics (the shape is this project's profile; JSON is that of RFC 8259).
use Rattle.std.specs.Prelude.{◌≡◌, ◌⊎◌, ℕ, List, length, Option, Some, None, codes}
use Rattle.std.specs.List.{count_by}
use Rattle.std.specs.Option.{is_some}
use Rattle.std.specs.Str.{IsUtf8}
use Rattle.serde_json.specs.Data.{Data}
use Rattle.serde_json.specs.Find.{get}
use Rattle.serde_json.specs.Read as json
use Rattle.schema.specs.Each.{Pairs}
use Rattle.json_parts.specs.Spelling.{HasKeys, HasMember}
use Rattle.schema.specs.Spelling.{IsArray}
use Rattle.schema.specs.declared.schema.Column.{Column}
use Rattle.schema.specs.declared.schema.Table.{Table}
use Rattle.schema.specs.declared.schema.Schema.{Schema}
use Rattle.statistics.specs.declared.counts.IndexStatistics.{IndexStatistics}
use Rattle.statistics.specs.declared.counts.TableStatistics.{TableStatistics}
use Rattle.statistics.specs.declared.counts.Statistics.{Statistics}
use Rattle.statistics.specs.Entries.{as_whole, none_known}

-- what stands at the key is this whole number, of 64 bits without a sign
abbrev pub HasNumber : List ℕ → ℕ → Data → Type 0
HasNumber key n = HasMember key (λ m. as_whole m ≡ Some n)

pub record IsIndexText (d : Data) (i : IndexStatistics) : Type 0 where
  pub members : HasKeys 2 d
  pub keys : HasNumber (codes "keys") i.keys d
  pub pages : HasNumber (codes "pages") i.pages d

-- no member stands at the column's name, or one with just the number of its keys
abbrev pub IsColumnText : Data → Column → Option ℕ → Type 0
IsColumnText d c None = get c.name d ≡ None
IsColumnText d c (Some n) = HasMember c.name (λ m. HasKeys 1 m × HasNumber (codes "keys") n m) d

-- an object whose members are those of the columns that are known, at their names, and no other
pub record AreColumnsText (columns : List Column) (d : Data) (keys : List (Option ℕ)) : Type 0 where
  pub members : HasKeys (count_by is_some keys) d
  pub each : Pairs (IsColumnText d) columns keys

-- three members, and no column is known; or four, with an object of those that are
abbrev pub HasColumns : List Column → List (Option ℕ) → Data → Type 0
HasColumns columns keys d = (HasKeys 3 d × (keys ≡ none_known columns)) ⊎ (HasKeys 4 d × HasMember (codes "columns") (λ m. AreColumnsText columns m keys) d)

-- of this table: with an entry for each of its indexes
pub record IsTableText (table : Table) (d : Data) (t : TableStatistics) : Type 0 where
  pub rows : HasNumber (codes "rows") t.rows d
  pub pages : HasNumber (codes "pages") t.pages d
  pub indexes : HasMember (codes "indexes") (λ m. IsArray IsIndexText m t.indexes) d
  pub each : length t.indexes ≡ length table.indexes
  pub columns : HasColumns table.columns t.column_keys d

-- an entry for each of the tables, at its name, and no other
pub record AreTablesText (tables : List Table) (d : Data) (ts : List TableStatistics) : Type 0 where
  pub members : HasKeys (length tables) d
  pub each : Pairs (λ table t. HasMember table.name (λ m. IsTableText table m t) d) tables ts

-- the bytes are JSON, which spells these statistics of the schema
pub record IsStatisticsText (schema : Schema) (bytes : List ℕ) (s : Statistics) : Type 0 where
  pub text : IsUtf8 bytes
  pub value : Data
  pub json : json.read bytes ≡ Some value
  pub members : HasKeys 1 value
  pub tables : HasMember (codes "tables") (λ m. AreTablesText schema.tables m s.tables) value
