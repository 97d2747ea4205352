-- When bytes are a schema's JSON (the shape is this project's profile; JSON is that of RFC 8259).
use Rattle.std.specs.Prelude.{◌≡◌, ℕ, List, [], map, Some, slice_index_or, codes}
use Rattle.std.specs.Str.{IsUtf8}
use Rattle.serde_json.specs.Data.{Data, Items}
use Rattle.serde_json.specs.Read as json
use Rattle.serde_json.specs.Find.{as_str, as_bool, as_array}
use Rattle.json_parts.specs.Parts.{list_of}
use Rattle.json_parts.specs.Spelling.{HasKeys, HasMember}
use Rattle.schema.specs.declared.schema.Kind.{Kind}
use Rattle.schema.specs.declared.schema.Kind.TheVariants.{Int, Text}
use Rattle.schema.specs.declared.schema.Column.{Column}
use Rattle.schema.specs.declared.schema.Table.{Table}
use Rattle.schema.specs.declared.schema.Schema.{Schema}
use Rattle.schema.specs.Each.{Pairs}
use Rattle.schema.specs.Names.{Name}
use Rattle.schema.specs.Schemas.{IsSchema}

-- a string with these characters
abbrev pub IsText : Data → List ℕ → Type 0
IsText d text = as_str d ≡ Some text

-- an array whose items are these things, one after the other
abbrev pub IsArray : {A : Type 0} → (Data → A → Type 0) → Data → List A → Type 0
IsArray P d xs = (items : Items) × (as_array d ≡ Some items) × Pairs P (list_of items) xs

abbrev pub word_of : Kind → List ℕ
word_of Int = codes "INT"
word_of Text = codes "TEXT"

pub record IsColumnText (d : Data) (c : Column) : Type 0 where
  pub keys : HasKeys 3 d
  pub name : HasMember (codes "name") (λ m. IsText m c.name) d
  pub kind : HasMember (codes "kind") (λ m. IsText m (word_of c.kind)) d
  pub not_null : HasMember (codes "not_null") (λ m. as_bool m ≡ Some c.not_null) d

-- the name of the column at this place
abbrev pub name_in_place : List Column → ℕ → Name
name_in_place columns place = slice_index_or (map (λ c. c.name) columns) place []

-- the names of the columns at the places
abbrev pub IsListText : List Column → Data → List ℕ → Type 0
IsListText columns = IsArray (λ d place. IsText d (name_in_place columns place))

pub record IsTableText (d : Data) (t : Table) : Type 0 where
  pub keys : HasKeys 4 d
  pub name : HasMember (codes "name") (λ m. IsText m t.name) d
  pub columns : HasMember (codes "columns") (λ m. IsArray IsColumnText m t.columns) d
  pub unique : HasMember (codes "unique") (λ m. IsArray (IsListText t.columns) m t.unique) d
  pub indexes : HasMember (codes "indexes") (λ m. IsArray (IsListText t.columns) m t.indexes) d

-- the bytes are JSON, which spells this schema
pub record IsSchemaText (bytes : List ℕ) (s : Schema) : Type 0 where
  pub text : IsUtf8 bytes
  pub value : Data
  pub json : json.read bytes ≡ Some value
  pub keys : HasKeys 1 value
  pub tables : HasMember (codes "tables") (λ m. IsArray IsTableText m s.tables) value
  pub whole : IsSchema s
