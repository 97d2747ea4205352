-- What bytes spell as JSON: the entries of tables, or why they have another shape.
use Rattle.std.specs.Prelude.{ℕ, List, length, Bool, Option, Result, Ok, Err, ◌==◌, if◌then◌else◌, codes, bytes_eq}
use Rattle.serde_json.specs.Data.{Data}
use Rattle.serde_json.specs.Find.{as_str, as_bool}
use Rattle.values.specs.Faults.{◌>>=◌}
use Rattle.values.specs.Faults as faults
use Rattle.json_parts.specs.Parts as parts
use Rattle.schema.specs.declared.fault.SchemaRefusal.{SchemaRefusal}
use Rattle.schema.specs.declared.fault.SchemaRefusal.TheVariants.{NotJson, Shape}
use Rattle.schema.specs.declared.schema.Kind.{Kind}
use Rattle.schema.specs.declared.schema.Kind.TheVariants.{Int, Text}
use Rattle.schema.specs.declared.schema.Column.{Column}
use Rattle.schema.specs.declared.entries.TableEntry.{TableEntry}
use Rattle.schema.specs.Names.{Name, is_name}
use Rattle.schema.specs.Each.{each}

abbrev pub wanted : {A : Type 0} → Option A → Result A SchemaRefusal
wanted x = faults.wanted Shape x

abbrev pub wanted_if : {A : Type 0} → Bool → A → Result A SchemaRefusal
wanted_if b x = faults.wanted_if Shape b x

-- what the bytes are as JSON
abbrev pub json_in : List ℕ → Result Data SchemaRefusal
json_in bytes = parts.json_in NotJson bytes

-- an object with as many members as this
abbrev pub keys_in : ℕ → Data → Result (Unit {0}) SchemaRefusal
keys_in n d = parts.keys_in Shape n d

abbrev pub field_in : Name → Data → Result Data SchemaRefusal
field_in name d = parts.member_in Shape name d

-- the flag that a member is
unfoldable pub member_flag : Name → Data → Result Bool SchemaRefusal
member_flag name d = do
  b ← field_in name d
  wanted (as_bool b)

-- an array's items
abbrev pub items_in : Data → Result (List Data) SchemaRefusal
items_in d = parts.items_in Shape d

-- the items of the array that a member is
unfoldable pub member_items : Name → Data → Result (List Data) SchemaRefusal
member_items name d = do
  a ← field_in name d
  items_in a

-- a list with an item at least
abbrev pub some_of : {A : Type 0} → List A → Result (List A) SchemaRefusal
some_of xs = if length xs == 0 then Err Shape else Ok xs

unfoldable pub name_in : Data → Result Name SchemaRefusal
name_in d = do
  text ← wanted (as_str d)
  wanted_if (is_name text) text

-- the name that the member `name` is
unfoldable pub member_name : Data → Result Name SchemaRefusal
member_name d = do
  n ← field_in (codes "name") d
  name_in n

unfoldable pub kind_in : Data → Result Kind SchemaRefusal
kind_in d = do
  text ← wanted (as_str d)
  if bytes_eq text (codes "INT") then Ok Int else (if bytes_eq text (codes "TEXT") then Ok Text else Err Shape)

-- the kind that the member `kind` is
unfoldable pub member_kind : Data → Result Kind SchemaRefusal
member_kind d = do
  k ← field_in (codes "kind") d
  kind_in k

-- at least one name
unfoldable pub names_in : Data → Result (List Name) SchemaRefusal
names_in d = do
  ds ← items_in d
  names ← each name_in ds
  some_of names

unfoldable pub column_in : Data → Result Column SchemaRefusal
column_in d = do
  _ ← keys_in 3 d
  name ← member_name d
  kind ← member_kind d
  not_null ← member_flag (codes "not_null") d
  Ok (record { name = name; kind = kind; not_null = not_null })

-- a table's columns, at least one
unfoldable pub columns_in : Data → Result (List Column) SchemaRefusal
columns_in d = do
  ds ← member_items (codes "columns") d
  columns ← each column_in ds
  some_of columns

-- the lists of names that a member of a table is
unfoldable pub lists_in : Name → Data → Result (List (List Name)) SchemaRefusal
lists_in name d = do
  ds ← member_items name d
  each names_in ds

unfoldable pub table_in : Data → Result TableEntry SchemaRefusal
table_in d = do
  _ ← keys_in 4 d
  name ← member_name d
  columns ← columns_in d
  unique ← lists_in (codes "unique") d
  indexes ← lists_in (codes "indexes") d
  Ok (record { name = name; columns = columns; unique = unique; indexes = indexes })

-- the tables of a schema
unfoldable pub tables_in : Data → Result (List TableEntry) SchemaRefusal
tables_in d = do
  _ ← keys_in 1 d
  ds ← member_items (codes "tables") d
  each table_in ds

unfoldable pub entries_in : List ℕ → Result (List TableEntry) SchemaRefusal
entries_in bytes = do
  d ← json_in bytes
  tables_in d
