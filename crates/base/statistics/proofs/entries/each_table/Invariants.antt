use Rattle.std.proofs.Common.{◌≡◌, drop}
use Rattle.serde_json.specs.View.{view}
use Rattle.schema.specs.Each.{each}
use Rattle.schema.proofs.Loops.{after}
use Rattle.statistics.specs.Entries.{named_in}
use Rattle.statistics.proofs.entries.each_table.Given as goal

-- what was read before and what is still to be read are the whole
abbrev pub invariant-loop-table : goal.invariant-loop-table
invariant-loop-table l = after l.read (each (named_in (view l.entries)) (drop l.table-index l.tables)) ≡ each (named_in (view l.entries)) l.tables
