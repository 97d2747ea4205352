-- Table instances, and the numbers that they get in the order of the text (this project's profile of SQL).
use Rattle.std.specs.Prelude.{◌+◌, ℕ, not, List, [], ◌∷◌, ◌++◌, length, Result}
use Rattle.values.specs.Faults.{◌>>=◌, wanted_if}
use Rattle.schema.specs.declared.schema.Table.{Table}
use Rattle.schema.specs.declared.schema.Schema.{Schema}
use Rattle.sql_parse.specs.declared.statement.TableName.{TableName}
use Rattle.query.specs.declared.query.TableReference.{TableReference}
use Rattle.binder.specs.declared.tables.Numbered.{Numbered}
use Rattle.binder.specs.declared.fault.BindReason.TheVariants.{RepeatedName}
use Rattle.binder.specs.declared.fault.BindRefusal.{BindRefusal}
use Rattle.binder.specs.Lookups.{table_in, refusal}
use Rattle.binder.specs.Scopes.{Scope, is_taken, known_name}

-- the next instance, of a table at a place of the schema
abbrev pub next_reference : Numbered → ℕ → TableReference
next_reference n place = record { number = length n.tables; table = place }

-- its columns are numbered on from those of the instances before it
abbrev pub with_table : Numbered → ℕ → Table → List ℕ → Numbered
with_table n place entry name = record {
  tables = n.tables ++ record { table = place; entry = entry; name = name; first_column = n.next_column } ∷ [];
  next_column = n.next_column + length entry.columns;
  next_aggregate = n.next_aggregate;
}

-- so many aggregates are numbered
abbrev pub with_aggregates : Numbered → ℕ → Numbered
with_aggregates n more = record { tables = n.tables; next_column = n.next_column; next_aggregate = n.next_aggregate + more }

abbrev pub entered : Scope → TableName → Numbered → ℕ × Table → TableReference × Scope × Numbered
entered chain t n (place, entry) =
    (next_reference n place, chain ++ record { name = (known_name t).text; entry = entry } ∷ [], with_table n place entry (known_name t).text)

-- A table stands in a FROM, to the right of its own chain and behind the chains before it. Its name is no other's there.
unfoldable pub enter : Schema → Scope → Scope → TableName → Numbered → Result (TableReference × Scope × Numbered) BindRefusal
enter S before chain t n = do
  found ← table_in S t.name
  wanted_if (refusal RepeatedName (known_name t).at) (not (is_taken (known_name t).text (before ++ chain))) (entered chain t n found)
