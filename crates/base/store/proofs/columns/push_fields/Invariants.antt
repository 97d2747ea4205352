use Rattle.std.proofs.Common.{◌≡◌, take}
use Rattle.csv.specs.Records.{fields_of}
use Rattle.schema.specs.Databases.{Row}
use Rattle.store.specs.StoredColumns.{with_row}
use Rattle.store.specs.Tables.{StandFor}
use Rattle.store.proofs.columns.push_fields.Given as goal

abbrev pub invariant-loop-place : goal.invariant-loop-place
invariant-loop-place l = (row : Row) × StandFor (take l.place l.entry) (take l.place (fields_of l.fields)) row × (l.columns ≡ with_row l.initial.columns row)
