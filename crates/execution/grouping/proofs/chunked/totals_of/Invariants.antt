use Rattle.std.proofs.Common.{◌≡◌, ◌≤◌, ◌^◌, drop, length, take}
use Rattle.selections.specs.RowChunks.{chunks_to_come, pairs_to_come}
use Rattle.grouping.specs.Totals.{AreTotals}
use Rattle.grouping.proofs.chunked.totals_of.Given as goal

abbrev pub ghost-add : goal.ghost-add
ghost-add g a = take a.self.now.count g.all

abbrev pub decreases-loop-totals : goal.decreases-loop-totals
decreases-loop-totals g l = pairs_to_come l.chunks

abbrev pub invariant-loop-totals : goal.invariant-loop-totals
invariant-loop-totals g l = record {
  totals : AreTotals l.added (take l.totals.count g.all) l.totals;
  rest : chunks_to_come l.chunks ≡ drop l.totals.count g.all;
  few : l.totals.count ≤ 2 ^ 62;
  within : l.totals.count ≤ length g.all;
}
