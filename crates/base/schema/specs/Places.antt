-- A table whose lists name columns by their places.
use Rattle.std.specs.Prelude.{ℕ, List, Result, Ok}
use Rattle.values.specs.Faults.{◌>>=◌, wanted}
use Rattle.schema.specs.declared.fault.SchemaRefusal.{SchemaRefusal}
use Rattle.schema.specs.declared.fault.SchemaRefusal.TheVariants.{UnknownColumn}
use Rattle.schema.specs.declared.schema.Column.{Column}
use Rattle.schema.specs.declared.schema.Table.{Table}
use Rattle.schema.specs.declared.entries.TableEntry.{TableEntry}
use Rattle.schema.specs.Names.{Name, place_of}
use Rattle.schema.specs.Each.{each}

abbrev pub place_in : List Column → Name → Result ℕ SchemaRefusal
place_in columns name = wanted UnknownColumn (place_of (λ c. c.name) columns name)

abbrev pub places_in : List Column → List Name → Result (List ℕ) SchemaRefusal
places_in columns names = each (place_in columns) names

unfoldable pub placed : TableEntry → Result Table SchemaRefusal
placed t = do
  unique ← each (places_in t.columns) t.unique
  indexes ← each (places_in t.columns) t.indexes
  Ok (record { name = t.name; columns = t.columns; unique = unique; indexes = indexes })
