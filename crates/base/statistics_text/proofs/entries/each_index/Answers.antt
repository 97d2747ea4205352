use Rattle.std.proofs.Common.{◌<◌, length, get_or, take, arith}
use Rattle.std.proofs.lemmas.List.{take_more}
use Rattle.statistics.specs.declared.counts.IndexStatistics.{IndexStatistics}
use Rattle.statistics_text.proofs.Parts.{index_more}
use Rattle.statistics_text.proofs.entries.each_index.Goals as goal

pub loop-index-preserved : goal.loop-index-preserved
loop-index-preserved c =
    let indexes = c.args.indexes.now in
    let n = c.loop-index.index-index in
    let none : IndexStatistics = record { keys = 0; pages = 0 } in
    let below : n < length indexes = omega arith in
    rw (c.in_ok-push.ensures.items, take_more indexes n none below)
    (index_more c.loop-index.values.items (take n indexes) c.in_ok-index_value.field-0 (get_or indexes n none) c.loop-index.invariant c.in_ok-index_value.ensures)
