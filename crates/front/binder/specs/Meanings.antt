-- What a name means, by the place where it stands and not by a search (the scope rules of ISO/IEC 9075-2, 6.6, identifier
-- chain, 7.6, table reference, and 7.12, query specification, in this project's profile of SQL).
use Rattle.std.specs.Prelude.{◌≡◌, ◌≢◌, ◌+◌, ◌≤◌, ◌⊎◌, ◌↔◌, ℕ, List, [], ◌∷◌, ◌++◌, length, take, Option, Some, None, Ok, Err, slice_get}
use Rattle.schema.specs.declared.schema.Column as entries
use Rattle.sql_parse.specs.declared.name.Name.{Name}
use Rattle.sql_parse.specs.declared.statement.ColumnName.{ColumnName}
use Rattle.binder.specs.declared.scope.TypedColumn.{TypedColumn}
use Rattle.binder.specs.declared.fault.BindReason.{BindReason}
use Rattle.binder.specs.declared.fault.BindReason.TheVariants.{UnknownColumn, AmbiguousName}
use Rattle.binder.specs.declared.fault.BindRefusal.{BindRefusal}
use Rattle.binder.specs.Scopes.{Known, Scope, Scopes, meant, place_in_text}

-- ---- items of a list

module _ {A : Type 0} (P : A → Type 0) where
  -- x stands at this place of the list, and P holds of it
  abbrev pub Stands : List A → ℕ → A → Type 0
  Stands xs i x = (slice_get xs i ≡ Some x) × P x

  -- P holds of some item
  abbrev pub HasAny : List A → Type 0
  HasAny xs = (i : ℕ) × (x : A) × Stands xs i x

  -- P holds of two items
  abbrev pub HasTwo : List A → Type 0
  HasTwo xs = (i j : ℕ) × (x y : A) × Stands xs i x × Stands xs j y × (i ≢ j)

  -- x is the first item of which P holds
  pub record IsFirst (xs : List A) (i : ℕ) (x : A) : Type 0 where
    pub stands : Stands xs i x
    pub first : (j : ℕ) (y : A) → Stands xs j y → i ≤ j

  -- x is the one item of which P holds
  pub record IsOnly (xs : List A) (i : ℕ) (x : A) : Type 0 where
    pub stands : Stands xs i x
    pub only : (j : ℕ) (y : A) → Stands xs j y → j ≡ i

-- ---- columns and table instances

abbrev pub IsColumn : Name → entries.Column → Type 0
IsColumn name c = c.name ≡ name.text

abbrev pub IsInstance : Name → Known → Type 0
IsInstance name o = o.name ≡ name.text

-- the columns of a FROM, in the order of its table instances
abbrev pub columns_of : Scope → List entries.Column
columns_of [] = []
columns_of (o ∷ scope) = o.entry.columns ++ columns_of scope

abbrev pub HasColumn : Name → Scope → Type 0
HasColumn name scope = HasAny (IsColumn name) (columns_of scope)

abbrev pub HasInstance : Name → Scope → Type 0
HasInstance name scope = HasAny (IsInstance name) scope

-- ---- plain names

-- A plain name means the one column of that name in the innermost FROM that has one.
pub record MeansPlain (name : Name) (scopes : Scopes) (found : TypedColumn) : Type 0 where
  pub scope : Scope
  pub innermost : IsFirst (HasColumn name) scopes found.column.level scope
  pub column : entries.Column
  pub one : IsOnly (IsColumn name) (columns_of scope) found.column.place column
  pub kind : found.kind ≡ column.kind

-- It is ambiguous if that FROM has two, and unknown if none has one.
abbrev pub PlainFault : BindReason → Name → Scopes → Type 0
PlainFault UnknownColumn name scopes = HasAny (HasColumn name) scopes → ⊥
PlainFault AmbiguousName name scopes = (level : ℕ) × (scope : Scope) × IsFirst (HasColumn name) scopes level scope × HasTwo (IsColumn name) (columns_of scope)
PlainFault _ name scopes = ⊥

-- ---- names with a table's name before them

-- `a.c` means the column c of the instance a in the innermost FROM that has an a. Of two in one FROM, which is a fault of
-- the FROM itself, it is the first.
pub record MeansQualified (table name : Name) (scopes : Scopes) (found : TypedColumn) : Type 0 where
  pub scope : Scope
  pub innermost : IsFirst (HasInstance table) scopes found.column.level scope
  pub before : ℕ
  pub reference : Known
  pub known : IsFirst (IsInstance table) scope before reference
  pub within : ℕ
  pub column : entries.Column
  pub named : IsFirst (IsColumn name) reference.entry.columns within column
  pub place : found.column.place ≡ length (columns_of (take before scope)) + within
  pub kind : found.kind ≡ column.kind

-- that instance has no such column
pub record LacksColumn (table name : Name) (scopes : Scopes) : Type 0 where
  pub level : ℕ
  pub scope : Scope
  pub innermost : IsFirst (HasInstance table) scopes level scope
  pub before : ℕ
  pub reference : Known
  pub known : IsFirst (IsInstance table) scope before reference
  pub lacks : HasAny (IsColumn name) reference.entry.columns → ⊥

-- It is unknown if no FROM has an a, or the a has no such column.
abbrev pub QualifiedFault : BindReason → Name → Name → Scopes → Type 0
QualifiedFault UnknownColumn table name scopes = (HasAny (HasInstance table) scopes → ⊥) ⊎ LacksColumn table name scopes
QualifiedFault _ table name scopes = ⊥

-- ---- either

abbrev pub means_by : Option Name → Name → Scopes → TypedColumn → Type 0
means_by None name = MeansPlain name
means_by (Some table) name = MeansQualified table name

-- among these FROMs, the innermost first, the name means this column
abbrev pub Means : ColumnName → Scopes → TypedColumn → Type 0
Means c = means_by c.table c.name

abbrev pub fault_by : BindReason → Option Name → Name → Scopes → Type 0
fault_by reason None name = PlainFault reason name
fault_by reason (Some table) name = QualifiedFault reason table name

-- it means none for this reason, which is reported at the name's first byte
abbrev pub IsNameFault : ColumnName → Scopes → BindRefusal → Type 0
IsNameFault c scopes r = (r.at ≡ place_in_text c) × fault_by r.reason c.table c.name scopes

-- ---- the laws

abbrev pub NamesMean : Type 0
NamesMean = (c : ColumnName) (scopes : Scopes) (found : TypedColumn) → (meant c scopes ≡ Ok found) ↔ Means c scopes found

abbrev pub NamesFail : Type 0
NamesFail = (c : ColumnName) (scopes : Scopes) (r : BindRefusal) → (meant c scopes ≡ Err r) ↔ IsNameFault c scopes r
