-- What bytes spell as JSON: the entries of a schema's tables, or why they have another shape.
use Rattle.std.specs.Prelude.{ℕ, List, length, map, Bool, false, Option, Some, None, Result, Ok, ◌==◌, if◌then◌else◌, codes, option_and_then}
use Rattle.std.specs.List.{count_by}
use Rattle.std.specs.Option.{is_some}
use Rattle.serde_json.specs.Data.{Data, Members}
use Rattle.serde_json.specs.Events.{members_len}
use Rattle.serde_json.specs.Find.{get, as_number, as_u64, as_array, as_object}
use Rattle.values.specs.Faults.{◌>>=◌}
use Rattle.values.specs.Faults as faults
use Rattle.json_parts.specs.Parts as parts
use Rattle.json_parts.specs.Parts.{list_of}
use Rattle.schema.specs.Names.{Name}
use Rattle.schema.specs.Each.{each}
use Rattle.schema.specs.declared.schema.Column.{Column}
use Rattle.schema.specs.declared.schema.Table.{Table}
use Rattle.statistics.specs.declared.counts.IndexStatistics.{IndexStatistics}
use Rattle.statistics.specs.declared.counts.TableStatistics.{TableStatistics}
use Rattle.statistics.specs.declared.fault.StatisticsRefusal.{StatisticsRefusal}
use Rattle.statistics.specs.declared.fault.StatisticsRefusal.TheVariants.{NotJson, Shape}

abbrev pub wanted : {A : Type 0} → Option A → Result A StatisticsRefusal
wanted x = faults.wanted Shape x

abbrev pub wanted_if : {A : Type 0} → Bool → A → Result A StatisticsRefusal
wanted_if b x = faults.wanted_if Shape b x

-- what the bytes are as JSON
abbrev pub json_in : List ℕ → Result Data StatisticsRefusal
json_in bytes = parts.json_in NotJson bytes

-- an object with as many members as this
abbrev pub keys_in : ℕ → Data → Result (Unit {0}) StatisticsRefusal
keys_in n d = parts.keys_in Shape n d

abbrev pub has_members : ℕ → Option Members → Bool
has_members n None = false
has_members n (Some members) = members_len members == n

-- whether it is an object with as many members as this
unfoldable pub is_object_of : ℕ → Data → Bool
is_object_of n d = has_members n (as_object d)

abbrev pub member_in : Name → Data → Result Data StatisticsRefusal
member_in name d = parts.member_in Shape name d

-- the whole number that a value is, from 0 to the greatest of 64 bits
abbrev pub as_whole : Data → Option ℕ
as_whole d = option_and_then as_u64 (as_number d)

-- the number that a member is
unfoldable pub number_in : Name → Data → Result ℕ StatisticsRefusal
number_in name d = do
  m ← member_in name d
  wanted (as_whole m)

-- an array's items, as many as this
unfoldable pub items_in : ℕ → Data → Result (List Data) StatisticsRefusal
items_in n d = do
  items ← wanted (as_array d)
  wanted_if (length (list_of items) == n) (list_of items)

unfoldable pub index_in : Data → Result IndexStatistics StatisticsRefusal
index_in d = do
  _ ← keys_in 2 d
  keys ← number_in (codes "keys") d
  pages ← number_in (codes "pages") d
  Ok (record { keys = keys; pages = pages })

abbrev pub each_index : List Data → Result (List IndexStatistics) StatisticsRefusal
each_index = each index_in

-- as many indexes as this
unfoldable pub indexes_in : ℕ → Data → Result (List IndexStatistics) StatisticsRefusal
indexes_in n d = do
  m ← member_in (codes "indexes") d
  ds ← items_in n m
  each_index ds

-- how many keys a column has, by the member at its name, if there is one
abbrev pub known_at : Option Data → Result (Option ℕ) StatisticsRefusal
known_at None = Ok None
known_at (Some d) = do
  _ ← keys_in 1 d
  keys ← number_in (codes "keys") d
  Ok (Some keys)

unfoldable pub column_in : Data → Column → Result (Option ℕ) StatisticsRefusal
column_in d c = known_at (get c.name d)

abbrev pub each_column : Data → List Column → Result (List (Option ℕ)) StatisticsRefusal
each_column d = each (column_in d)

-- as many members as columns are known
unfoldable pub known_in : List Column → Data → Result (List (Option ℕ)) StatisticsRefusal
known_in columns d = do
  keys ← each_column d columns
  _ ← keys_in (count_by is_some keys) d
  Ok keys

abbrev pub none_known : List Column → List (Option ℕ)
none_known columns = map (λ c. None) columns

-- the fourth member of a table's entry
unfoldable pub fourth_in : List Column → Data → Result (List (Option ℕ)) StatisticsRefusal
fourth_in columns d = do
  _ ← keys_in 4 d
  m ← member_in (codes "columns") d
  known_in columns m

-- no column is known where the entry has but three members
unfoldable pub column_keys_in : List Column → Data → Result (List (Option ℕ)) StatisticsRefusal
column_keys_in columns d = if is_object_of 3 d then Ok (none_known columns) else fourth_in columns d

unfoldable pub table_in : Table → Data → Result TableStatistics StatisticsRefusal
table_in t d = do
  rows ← number_in (codes "rows") d
  pages ← number_in (codes "pages") d
  indexes ← indexes_in (length t.indexes) d
  column_keys ← column_keys_in t.columns d
  Ok (record { rows = rows; pages = pages; indexes = indexes; column_keys = column_keys })

-- the entry that stands at the table's name
unfoldable pub named_in : Data → Table → Result TableStatistics StatisticsRefusal
named_in d t = do
  m ← member_in t.name d
  table_in t m

abbrev pub each_table : Data → List Table → Result (List TableStatistics) StatisticsRefusal
each_table d = each (named_in d)

-- the entries of the tables, one of each
unfoldable pub tables_in : List Table → Data → Result (List TableStatistics) StatisticsRefusal
tables_in ts d = do
  _ ← keys_in 1 d
  m ← member_in (codes "tables") d
  _ ← keys_in (length ts) m
  each_table m ts
