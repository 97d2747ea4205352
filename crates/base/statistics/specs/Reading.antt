-- What bytes read as: the statistics of a schema's tables, or why they are none.
use Rattle.std.specs.Prelude.{ℕ, List, Result, Ok}
use Rattle.values.specs.Faults.{◌>>=◌}
use Rattle.schema.specs.declared.schema.Schema.{Schema}
use Rattle.statistics.specs.declared.counts.Statistics.{Statistics}
use Rattle.statistics.specs.declared.fault.StatisticsRefusal.{StatisticsRefusal}
use Rattle.statistics.specs.Entries.{json_in, tables_in}

unfoldable pub statistics_of : Schema → List ℕ → Result Statistics StatisticsRefusal
statistics_of S bytes = do
  d ← json_in bytes
  tables ← tables_in S.tables d
  Ok (record { tables = tables })
