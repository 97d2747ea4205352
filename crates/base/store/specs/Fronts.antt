-- What is parsed of the front of a table's file.
use Rattle.std.specs.Prelude.{◌≡◌, ◌≤◌, ℕ, Bool, true, false, List, [], ◌∷◌, ◌++◌, length, map, Option, Some, None}
use Rattle.schema.specs.declared.schema.Column.{Column}
use Rattle.schema.specs.Databases.{Row, most_rows}
use Rattle.store.specs.declared.fault.TableRefusal.{TableRefusal}
use Rattle.store.specs.StoredColumns.{Kept}
use Rattle.store.specs.Tables.{Record, names_of, records_of}
use Rattle.store.specs.Parsing.{Written, ParsesFile}

-- the rows are kept in columns of these kinds, and are no more than a table may have
pub record FitsEntry (cs : List Column) (k : Kept) : Type 0 where
  pub kinds : k.kinds ≡ map (λ c. c.kind) cs
  pub few : length k.rows ≤ most_rows

-- no record is at fault: there is none yet, or the first are the names and the others the rows
abbrev pub Begins : List Column → List Record → Bool → List Row → Type 0
Begins cs records false rows = (records ≡ []) × (rows ≡ [])
Begins cs records true rows = (rest : List Record) × (records ≡ names_of cs ∷ rest) × Written cs rest rows []

-- the first records give the rows, or a fault, which is then the file's whatever comes after them
abbrev pub ParsesFront : List Column → List Record → Bool → List Row → Option TableRefusal → Type 0
ParsesFront cs records named rows None = Begins cs records named rows
ParsesFront cs records named rows (Some refusal) = (more : List Record) → ParsesFile cs (records ++ more) (record { rows = rows; fault = Some refusal })

-- the records, which are all of the file's, give the rows or the fault
abbrev pub ParsesAll : List Column → List Record → Bool → List Row → Option TableRefusal → Type 0
ParsesAll cs records named rows None = Begins cs records named rows
ParsesAll cs records named rows (Some refusal) = ParsesFile cs records (record { rows = rows; fault = Some refusal })

-- the bytes were read, and the rest of them is not parsed yet
abbrev pub ReadsFront : List Column → List ℕ → List ℕ → Bool → List Row → Option TableRefusal → Type 0
ReadsFront cs bytes rest named rows None = (records : List Record) × Begins cs records named rows
    × ((more : List ℕ) → records_of (bytes ++ more) ≡ records ++ records_of (rest ++ more))
ReadsFront cs bytes rest named rows (Some refusal) = (more : List ℕ) → ParsesFile cs (records_of (bytes ++ more)) (record { rows = rows; fault = Some refusal })
