use Rattle.std.proofs.Common.{◌≡◌, drop}
use Rattle.serde_json.specs.View.{view}
use Rattle.schema.specs.Each.{each}
use Rattle.schema.proofs.Loops.{after}
use Rattle.statistics.specs.Entries.{column_in}
use Rattle.statistics.proofs.entries.each_column.Given as goal

-- what was read before and what is still to be read are the whole
abbrev pub invariant-loop-column : goal.invariant-loop-column
invariant-loop-column l = after l.read (each (column_in (view l.entries)) (drop l.column-index l.columns)) ≡ each (column_in (view l.entries)) l.columns
