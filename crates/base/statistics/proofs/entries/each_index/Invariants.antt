use Rattle.std.proofs.Common.{◌≡◌, drop}
use Rattle.serde_json.specs.View.{view}
use Rattle.schema.specs.Each.{each}
use Rattle.schema.proofs.Loops.{after}
use Rattle.statistics.specs.Entries.{index_in}
use Rattle.statistics.proofs.entries.each_index.Given as goal

-- what was read before and what is still to be read are the whole
abbrev pub invariant-loop-item : goal.invariant-loop-item
invariant-loop-item l = after l.indexes (each (λ v. index_in (view v)) (drop l.item-index l.items)) ≡ each (λ v. index_in (view v)) l.items
