-- What a name means among the FROMs around it (this project's profile of SQL's scopes).
use Rattle.std.specs.Prelude.{◌+◌, ℕ, Bool, List, [], ◌∷◌, ◌++◌, length, if◌then◌else◌, Option, Some, None, option_map, Result, Ok, Err, bytes_eq}
use Rattle.std.specs.List.{list_any}
use Rattle.values.specs.Faults.{wanted}
use Rattle.schema.specs.declared.schema.Kind.{Kind}
use Rattle.schema.specs.declared.schema.Column as entries
use Rattle.schema.specs.declared.schema.Table.{Table}
use Rattle.sql_parse.specs.declared.name.Name.{Name}
use Rattle.sql_parse.specs.declared.statement.ColumnName.{ColumnName}
use Rattle.sql_parse.specs.declared.statement.TableName.{TableName}
use Rattle.binder.specs.declared.scope.TypedColumn.{TypedColumn}
use Rattle.binder.specs.declared.fault.BindReason.TheVariants.{UnknownColumn, AmbiguousName}
use Rattle.binder.specs.declared.fault.BindRefusal.{BindRefusal}
use Rattle.binder.specs.Lookups.{find_column, refusal}

-- ---- scopes

-- a table instance: the name by which columns name it, and its entry in the schema
pub record Known : Type 0 where
  pub name : List ℕ
  pub entry : Table

-- the table instances of a FROM, or of the sides of a join, as they stand in the text
abbrev pub Scope : Type 0
Scope = List Known

-- the FROMs around a place, the innermost first
abbrev pub Scopes : Type 0
Scopes = List Scope

-- whether an instance has this name
abbrev pub is_taken : List ℕ → Scope → Bool
is_taken name scope = list_any (λ o. bytes_eq name o.name) scope

-- ---- plain names

-- the columns of this name among those of a table, by their places, which are counted on from n, and their kinds
abbrev pub columns_named : List ℕ → ℕ → List entries.Column → List (ℕ × Kind)
columns_named name n [] = []
columns_named name n (c ∷ cs) = if bytes_eq name c.name then (n, c.kind) ∷ columns_named name (n + 1) cs else columns_named name (n + 1) cs

-- the columns of this name in a FROM
abbrev pub named_in : List ℕ → ℕ → Scope → List (ℕ × Kind)
named_in name n [] = []
named_in name n (o ∷ scope) = columns_named name n o.entry.columns ++ named_in name (n + length o.entry.columns) scope

abbrev pub at_level : ℕ → ℕ × Kind → TypedColumn
at_level level (place, kind) = record { column = record { level = level; place = place }; kind = kind }

-- The only one of the columns that have the name in a scope. Several are ambiguous, and where there are none the name means
-- what it means outside.
abbrev pub only : Name → ℕ → List (ℕ × Kind) → Result TypedColumn BindRefusal → Result TypedColumn BindRefusal
only name level [] outside = outside
only name level (found ∷ []) outside = Ok (at_level level found)
only name level (found ∷ other ∷ more) outside = Err (refusal AmbiguousName name.at)

-- what a plain name means, where the innermost scope has this level
unfoldable pub plain : Name → ℕ → Scopes → Result TypedColumn BindRefusal
plain name level [] = Err (refusal UnknownColumn name.at)
plain name level (scope ∷ outer) = only name level (named_in name.text 0 scope) (plain name (level + 1) outer)

-- ---- names with a table's name before them

-- the entry of the instance of this name, and the place of its first column
abbrev pub instance_named : List ℕ → ℕ → Scope → Option (ℕ × Table)
instance_named name n [] = None
instance_named name n (o ∷ scope) = if bytes_eq name o.name then Some (n, o.entry) else instance_named name (n + length o.entry.columns) scope

-- the column of an instance whose columns begin at this place
abbrev pub column_of : Name → Name → ℕ → ℕ × Table → Result TypedColumn BindRefusal
column_of table name level (n, entry) =
    wanted (refusal UnknownColumn table.at) (option_map (λ found. at_level level (found.0, found.1.kind)) (find_column n entry.columns name.text))

abbrev pub in_instance : Name → Name → ℕ → Option (ℕ × Table) → Result TypedColumn BindRefusal → Result TypedColumn BindRefusal
in_instance table name level None outside = outside
in_instance table name level (Some o) outside = column_of table name level o

-- what a name means in the innermost scope with an instance of the table's name, where the innermost scope has this level
unfoldable pub qualified : Name → Name → ℕ → Scopes → Result TypedColumn BindRefusal
qualified table name level [] = Err (refusal UnknownColumn table.at)
qualified table name level (scope ∷ outer) =
    in_instance table name level (instance_named table.text 0 scope) (qualified table name (level + 1) outer)

-- ---- either

abbrev pub meant_by : Option Name → Name → Scopes → Result TypedColumn BindRefusal
meant_by None name scopes = plain name 0 scopes
meant_by (Some table) name scopes = qualified table name 0 scopes

-- the column that a name means among the FROMs around it
abbrev pub meant : ColumnName → Scopes → Result TypedColumn BindRefusal
meant c scopes = meant_by c.table c.name scopes

abbrev pub front_of : Option Name → Name → Name
front_of None name = name
front_of (Some front) name = front

-- the first byte of a column's name in the text
abbrev pub place_in_text : ColumnName → ℕ
place_in_text c = (front_of c.table c.name).at

-- the name by which a table instance is known: its alias, or else its table's
abbrev pub known_name : TableName → Name
known_name t = front_of t.alias t.name
