-- What a load does to a database.
use Rattle.std.specs.Prelude.{◌≡◌, ℕ, List, Result, Ok, Err, IfSome, slice_get, slice_set}
use Rattle.schema.specs.declared.schema.Table.{Table}
use Rattle.schema.specs.Databases.{Row, Stored}
use Rattle.store.specs.declared.fault.TableFault.{TableFault}
use Rattle.store.specs.declared.fault.TableFault.TheVariants as faults
use Rattle.store.specs.Tables.{Record, IsReported}

-- some rows take the place of those of the table with this number
abbrev pub ReplacesTable : Stored → Stored → ℕ → Type 0
ReplacesTable old new n = (rows : List Row) × (new ≡ record { schema = old.schema; tables = slice_set old.tables n rows })

-- the records of a table's file are loaded: the rows that they give take the place of the old ones, or their first fault is reported
abbrev pub LoadsTable : Stored → Stored → ℕ → Table → List Record → Result (Unit {0}) TableFault → Type 0
LoadsTable old new n t records (Ok x) = (rows : List Row) × IsReported t records (Ok rows) × (new ≡ record { schema = old.schema; tables = slice_set old.tables n rows })
LoadsTable old new n t records (Err faults.Memory) = Unit {0}
LoadsTable old new n t records (Err faults.Device) = Unit {0}
LoadsTable old new n t records (Err (faults.Refused refusal)) = IsReported t records (Err refusal)

-- the same at the table with this number
abbrev pub Loads : Stored → Stored → ℕ → List Record → Result (Unit {0}) TableFault → Type 0
Loads old new n records result = IfSome (slice_get old.schema.tables n) (λ t. LoadsTable old new n t records result)
