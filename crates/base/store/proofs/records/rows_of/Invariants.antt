use Rattle.std.proofs.Common.{◌-◌, List, length}
use Rattle.schema.specs.Databases.{most_rows}
use Rattle.store.specs.Tables.{Record}
use Rattle.store.specs.Reading.{Remains}
use Rattle.store.specs.Parsing.{Written}
use Rattle.store.specs.Fronts.{FitsEntry}
use Rattle.store.proofs.records.rows_of.Given as goal

abbrev pub invariant-loop-reader : goal.invariant-loop-reader
invariant-loop-reader g l = record {
  fits : FitsEntry l.columns l.rows;
  written : (records rest : List Record) → Written l.columns records l.fn.rows.rows rest → Remains g.R.Read.remaining l.fn.reader rest
      → (more : List Record) × Remains g.R.Read.remaining l.reader more × Written l.columns records l.rows.rows more;
}

abbrev pub decreases-loop-reader : goal.decreases-loop-reader
decreases-loop-reader g l = most_rows - length l.rows.rows
