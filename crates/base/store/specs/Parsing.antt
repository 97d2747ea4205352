-- What the steps of the loader give.
use Rattle.std.specs.Prelude.{◌≡◌, ◌≢◌, ◌<◌, ◌≤◌, ◌+◌, ℕ, List, [], ◌∷◌, ◌++◌, length, map, Option, Some, None, Result, Ok, Err, FitsSigned, ◌⊎◌}
use Rattle.std.specs.Int.{w64}
use Rattle.std.specs.Fmt.{signed_decimal}
use Rattle.std.specs.List.{AllByRecursion}
use Rattle.std.specs.Str.{IsUtf8}
use Rattle.values.specs.declared.value.Value.{Value}
use Rattle.values.specs.declared.value.Value.TheVariants as value
use Rattle.values.specs.declared.fault.Fault.{Fault}
use Rattle.values.specs.declared.fault.Fault.TheVariants.{Memory, Refused}
use Rattle.schema.specs.declared.schema.Kind.{Kind}
use Rattle.schema.specs.declared.schema.Kind.TheVariants as kind
use Rattle.schema.specs.declared.schema.Column.{Column}
use Rattle.schema.specs.declared.schema.Table.{Table}
use Rattle.schema.specs.Databases.{Row, FitsColumns, most_rows}
use Rattle.store.specs.declared.fault.FieldFault.{FieldFault}
use Rattle.store.specs.declared.fault.FieldFault.TheVariants.{BadEscape, NotNumber, NotText, NullValue}
use Rattle.store.specs.declared.fault.TableCause.{TableCause}
use Rattle.store.specs.declared.fault.TableCause.TheVariants.{OtherHeader, OtherLength, Field, Repeated, TooMany}
use Rattle.store.specs.declared.fault.TableRefusal.{TableRefusal}
use Rattle.store.specs.declared.fault.TableFault.{TableFault}
use Rattle.store.specs.declared.fault.TableFault.TheVariants as faults
use Rattle.store.specs.declared.records.Parsed.{Parsed}
use Rattle.store.specs.declared.unique.Repeat.{Repeat}
use Rattle.store.specs.Tables.{Record, names_of, IsText, IsNumber, Stands, FieldFails, FieldsFail, UniqueTo, RepeatsFirst, IsReported}
use Rattle.store.specs.Fields.{field_of}

-- the bytes are a value of the kind that isn't Null
abbrev pub IsPlain : Kind → List ℕ → Value → Type 0
IsPlain k f value.Null = ⊥
IsPlain k f (value.Int n) = (k ≡ kind.Int) × FitsSigned w64 n × (f ≡ signed_decimal n)
IsPlain k f (value.Text t) = (k ≡ kind.Text) × IsUtf8 t × (f ≡ t)

-- why they are none
abbrev pub PlainFails : Kind → List ℕ → FieldFault → Type 0
PlainFails k f BadEscape = ⊥
PlainFails k f NullValue = ⊥
PlainFails k f NotNumber = (k ≡ kind.Int) × ¬ (IsNumber f)
PlainFails k f NotText = (k ≡ kind.Text) × ¬ (IsUtf8 f)

-- the field stands for what these bytes are, and fails as they do: they are the field without its escape
pub record IsUnescaped (c : Column) (f bytes : List ℕ) : Type 0 where
  pub stands : (v : Value) → IsPlain c.kind bytes v → Stands c f v
  pub fails : (wrong : FieldFault) → PlainFails c.kind bytes wrong → FieldFails c f wrong

-- what is wrong with a record that stands for no row
abbrev pub RowFails : List Column → Record → TableCause → Type 0
RowFails cs fs OtherLength = length fs ≢ length cs
RowFails cs fs (Field place wrong) = (length fs ≡ length cs) × FieldsFail cs fs place wrong
RowFails cs fs OtherHeader = ⊥
RowFails cs fs (Repeated earlier) = ⊥
RowFails cs fs TooMany = ⊥

-- the fault of a record, of the fault of its field at this place
abbrev pub fault_at : ℕ → Fault FieldFault → Fault TableCause
fault_at place Memory = Memory
fault_at place (Refused wrong) = Refused (Field place wrong)

-- the records are those of the rows, and then the rest
pub record Written (cs : List Column) (records : List Record) (rows : List Row) (rest : List Record) : Type 0 where
  pub records_are : records ≡ map (map field_of) rows ++ rest
  pub fit : AllByRecursion (FitsColumns cs) rows
  pub text : AllByRecursion (AllByRecursion IsText) rows

-- why the record after so many rows stands for none
abbrev pub RecordFails : List Column → ℕ → Record → TableCause → Type 0
RecordFails cs n fs OtherLength = (n < most_rows) × RowFails cs fs OtherLength
RecordFails cs n fs (Field place wrong) = (n < most_rows) × RowFails cs fs (Field place wrong)
RecordFails cs n fs TooMany = n ≡ most_rows
RecordFails cs n fs OtherHeader = ⊥
RecordFails cs n fs (Repeated earlier) = ⊥

-- where the rows end: at the end of the records, or at one that stands for no row
abbrev pub EndsAt : List Column → ℕ → List Record → Option TableRefusal → Type 0
EndsAt cs n rest None = rest ≡ []
EndsAt cs n [] (Some refusal) = ⊥
EndsAt cs n (fs ∷ more) (Some refusal) = (refusal.row ≡ n + 1) × RecordFails cs n fs refusal.cause

-- the rows that the records stand for, up to the first that stands for none
pub record Parses (cs : List Column) (records : List Record) (p : Parsed) : Type 0 where
  pub rest : List Record
  pub written : Written cs records p.rows rest
  pub few : length p.rows ≤ most_rows
  pub ends : EndsAt cs (length p.rows) rest p.fault

-- the same of a file's records, of which the first are the names
abbrev pub ParsesFile : List Column → List Record → Parsed → Type 0
ParsesFile cs records p = ((rest : List Record) × (records ≡ names_of cs ∷ rest) × Parses cs rest p)
    ⊎ (((rest : List Record) → records ≢ names_of cs ∷ rest) × (p.rows ≡ []) × (p.fault ≡ Some (record { row = 0; cause = OtherHeader })))

-- the first row that repeats an earlier one on some list
pub record EarliestRepeat (rows : List Row) (lists : List (List ℕ)) (r : Repeat) : Type 0 where
  pub within : r.row < length rows
  pub before : AllByRecursion (UniqueTo r.row rows) lists
  pub there : RepeatsFirst rows r.row r.earlier lists

-- a table's records are read: they give the rows, or a refusal; no device is touched
abbrev pub ReadsTable : Table → List Record → Result (List Row) TableFault → Type 0
ReadsTable t records (Ok rows) = IsReported t records (Ok rows)
ReadsTable t records (Err faults.Memory) = Unit {0}
ReadsTable t records (Err faults.Device) = ⊥
ReadsTable t records (Err (faults.Refused refusal)) = IsReported t records (Err refusal)
