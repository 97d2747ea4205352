use Rattle.std.proofs.Common.{◌≡◌, take}
use Rattle.csv.specs.Records.{fields_of}
use Rattle.store.specs.Tables.{names_of}
use Rattle.store.proofs.records.is_header.Given as goal

abbrev pub invariant-loop-place : goal.invariant-loop-place
invariant-loop-place l = take l.place (fields_of l.fields) ≡ take l.place (names_of l.columns)
