-- What bytes read as: a schema, or the first reason why they are none.
use Rattle.std.specs.Prelude.{ℕ, List, Result, Ok}
use Rattle.values.specs.Faults.{◌>>=◌, wanted_if}
use Rattle.schema.specs.declared.fault.SchemaRefusal.{SchemaRefusal}
use Rattle.schema.specs.declared.fault.SchemaRefusal.TheVariants.{TooMany, Repeated}
use Rattle.schema.specs.declared.schema.Schema.{Schema}
use Rattle.schema.specs.Entries.{entries_in}
use Rattle.schema.specs.Limits.{are_few, names_differ}
use Rattle.schema.specs.Places.{placed}
use Rattle.schema.specs.Each.{each}

unfoldable pub schema_of : List ℕ → Result Schema SchemaRefusal
schema_of bytes = do
  entries ← entries_in bytes
  few ← wanted_if TooMany (are_few entries) entries
  good ← wanted_if Repeated (names_differ few) few
  tables ← each placed good
  Ok (record { tables = tables })
