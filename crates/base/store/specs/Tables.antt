-- What the records of a table's file stand for (this project's profile: Null is `\N`, and a text that begins with a backslash has one more).
use Rattle.std.specs.Prelude.{◌≡◌, ◌≢◌, ◌<◌, ◌+◌, ℕ, ℤ, zero, suc, true, false, List, [], ◌∷◌, ◌++◌, length, map, Result, Ok, Err, FitsSigned, ◌⊎◌, slice_index_or}
use Rattle.std.specs.Int.{w64}
use Rattle.std.specs.Fmt.{signed_decimal}
use Rattle.std.specs.List.{AllByRecursion, list_any}
use Rattle.std.specs.Str.{IsUtf8}
use Rattle.csv.specs.Reading.{default_config, records, strip_bom}
use Rattle.values.specs.declared.value.Value.{Value}
use Rattle.values.specs.declared.value.Value.TheVariants as value
use Rattle.values.specs.Truth.{is_null}
use Rattle.schema.specs.declared.schema.Kind.TheVariants as kind
use Rattle.schema.specs.declared.schema.Column.{Column}
use Rattle.schema.specs.declared.schema.Table.{Table}
use Rattle.schema.specs.Databases.{Row, FitsColumn, values_at, SatisfiesTable, most_rows}
use Rattle.store.specs.Fields.{escaped, field_of}
use Rattle.store.specs.declared.fault.FieldFault.{FieldFault}
use Rattle.store.specs.declared.fault.FieldFault.TheVariants.{BadEscape, NotNumber, NotText, NullValue}
use Rattle.store.specs.declared.fault.TableCause.{TableCause}
use Rattle.store.specs.declared.fault.TableCause.TheVariants.{OtherHeader, OtherLength, Field, Repeated, TooMany}
use Rattle.store.specs.declared.fault.TableRefusal.{TableRefusal}

-- the fields of a record
abbrev pub Record : Type 0
Record = List (List ℕ)

-- the records of a file's bytes, as csv reads them by default; a byte order mark before them is none of them
abbrev pub records_of : List ℕ → List Record
records_of bytes = records default_config (strip_bom bytes)

-- the names of the columns
abbrev pub names_of : List Column → Record
names_of cs = map (λ c. c.name) cs

-- the bytes of a text are UTF-8
abbrev pub IsText : Value → Type 0
IsText value.Null = Unit {0}
IsText (value.Int n) = Unit {0}
IsText (value.Text t) = IsUtf8 t

-- the field of this column stands for the value
pub record Stands (c : Column) (f : List ℕ) (v : Value) : Type 0 where
  pub written : f ≡ field_of v
  pub fits : FitsColumn c v
  pub text : IsText v

-- the fields stand for the row
abbrev pub StandFor : List Column → Record → Row → Type 0
StandFor [] [] [] = Unit {0}
StandFor [] [] (v ∷ vs) = ⊥
StandFor [] (f ∷ fs) vs = ⊥
StandFor (c ∷ cs) [] vs = ⊥
StandFor (c ∷ cs) (f ∷ fs) [] = ⊥
StandFor (c ∷ cs) (f ∷ fs) (v ∷ vs) = Stands c f v × StandFor cs fs vs

-- the records are the names of the columns and then the rows, which are such as the table's entry allows
pub record IsTable (t : Table) (records : List Record) (rows : List Row) : Type 0 where
  pub records_are : records ≡ names_of t.columns ∷ map (map field_of) rows
  pub text : AllByRecursion (AllByRecursion IsText) rows
  pub satisfies : SatisfiesTable t rows

-- a number of 64 bits in decimal
abbrev pub IsNumber : List ℕ → Type 0
IsNumber f = (n : ℤ) × FitsSigned w64 n × (f ≡ signed_decimal n)

-- what is wrong with a field that stands for no value of its column
abbrev pub FieldFails : Column → List ℕ → FieldFault → Type 0
FieldFails c f BadEscape = ((rest : List ℕ) × (f ≡ 92 ∷ rest)) × (f ≢ field_of value.Null) × ((t : List ℕ) → f ≢ escaped t)
FieldFails c f NullValue = (f ≡ field_of value.Null) × (c.not_null ≡ true)
FieldFails c f NotNumber = (c.kind ≡ kind.Int) × ((t : List ℕ) × (f ≡ escaped t)) × ¬ (IsNumber f)
FieldFails c f NotText = (c.kind ≡ kind.Text) × ((t : List ℕ) × (f ≡ escaped t) × ¬ (IsUtf8 t))

-- the fields before this place stand for values, and the one there fails
abbrev pub FieldsFail : List Column → Record → ℕ → FieldFault → Type 0
FieldsFail [] fs place wrong = ⊥
FieldsFail (c ∷ cs) [] place wrong = ⊥
FieldsFail (c ∷ cs) (f ∷ fs) zero wrong = FieldFails c f wrong
FieldsFail (c ∷ cs) (f ∷ fs) (suc place) wrong = ((v : Value) × Stands c f v) × FieldsFail cs fs place wrong

-- of the first n rows no two have the same values at the places, those with a Null among them apart
abbrev pub UniqueTo : ℕ → List Row → List ℕ → Type 0
UniqueTo n rows places = (i j : ℕ) → i < j → j < n
    → list_any is_null (values_at places (slice_index_or rows i [])) ≡ false
    → values_at places (slice_index_or rows i []) ≢ values_at places (slice_index_or rows j [])

-- the row has the values of an earlier one at the places, with no Null among them
pub record RepeatsAt (rows : List Row) (row earlier : ℕ) (places : List ℕ) : Type 0 where
  pub below : earlier < row
  pub whole : list_any is_null (values_at places (slice_index_or rows earlier [])) ≡ false
  pub same : values_at places (slice_index_or rows earlier []) ≡ values_at places (slice_index_or rows row [])

-- it does so on one of the lists, and on those before that one it repeats no row
abbrev pub RepeatsFirst : List Row → ℕ → ℕ → List (List ℕ) → Type 0
RepeatsFirst rows row earlier [] = ⊥
RepeatsFirst rows row earlier (places ∷ lists) = RepeatsAt rows row earlier places ⊎ (UniqueTo (row + 1) rows places × RepeatsFirst rows row earlier lists)

-- what is wrong with the record after the rows: it stands for no row, or for one that repeats an earlier one
abbrev pub FaultAfter : Table → List Row → Record → TableCause → Type 0
FaultAfter t rows fs OtherHeader = ⊥
FaultAfter t rows fs OtherLength = (length rows < most_rows) × (length fs ≢ length t.columns)
FaultAfter t rows fs (Field place wrong) = (length rows < most_rows) × (length fs ≡ length t.columns) × FieldsFail t.columns fs place wrong
FaultAfter t rows fs TooMany = length rows ≡ most_rows
FaultAfter t rows fs (Repeated earlier) = (length rows < most_rows)
    × ((row : Row) × StandFor t.columns fs row × ((e : ℕ) × (earlier ≡ e + 1) × RepeatsFirst (rows ++ row ∷ []) (length rows) e t.unique))

-- the rows before the first faulty record, and its fault
pub record IsFaulty (t : Table) (records : List Record) (refusal : TableRefusal) : Type 0 where
  pub rows : List Row
  pub faulty : Record
  pub more : List Record
  pub records_are : records ≡ names_of t.columns ∷ (map (map field_of) rows ++ faulty ∷ more)
  pub text : AllByRecursion (AllByRecursion IsText) rows
  pub satisfies : SatisfiesTable t rows
  pub row_is : refusal.row ≡ length rows + 1
  pub fault : FaultAfter t rows faulty refusal.cause

-- the first fault of a table's file
abbrev pub IsFirstFault : Table → List Record → TableRefusal → Type 0
IsFirstFault t records refusal = (((rest : List Record) → records ≢ names_of t.columns ∷ rest) × (refusal ≡ record { row = 0; cause = OtherHeader }))
    ⊎ IsFaulty t records refusal

-- what a table's records say: the rows that they are, or their first fault
abbrev pub Reported : Table → List Record → Result (List Row) TableRefusal → Type 0
Reported t records (Ok rows) = IsTable t records rows
Reported t records (Err refusal) = IsFirstFault t records refusal

-- it is reported, and nothing else
pub record IsReported (t : Table) (records : List Record) (answer : Result (List Row) TableRefusal) : Type 0 where
  pub reported : Reported t records answer
  pub only : (other : Result (List Row) TableRefusal) → Reported t records other → other ≡ answer
