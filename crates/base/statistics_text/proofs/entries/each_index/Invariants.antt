use Rattle.std.proofs.Common.{take}
use Rattle.schema.specs.Each.{Pairs}
use Rattle.statistics_text.proofs.Parts.{IsIndexValue}
use Rattle.statistics_text.proofs.entries.each_index.Given as goal

-- a value for each index so far
abbrev pub invariant-loop-index : goal.invariant-loop-index
invariant-loop-index l = Pairs IsIndexValue l.values.items (take l.index-index l.indexes)
