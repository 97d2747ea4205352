use Rattle.std.proofs.Common.{◌≡◌, ◌≤◌, ◌^◌, drop, get_or, length}
use Rattle.algebra.specs.Bags.{nulls}
use Rattle.selections.specs.RowChunks.{chunks_to_come, pairs_to_come}
use Rattle.grouping.specs.GroupTables.{HasGroups}
use Rattle.grouping.proofs.chunked.table_of.Given as goal

abbrev pub ghost-add : goal.ghost-add
ghost-add g a = (a.keys.now, λ n. get_or g.all n nulls)

abbrev pub decreases-loop-table : goal.decreases-loop-table
decreases-loop-table g l = pairs_to_come l.chunks

abbrev pub invariant-loop-table : goal.invariant-loop-table
invariant-loop-table g l = record {
  groups : HasGroups l.keys l.added (λ n. get_or g.all n nulls) l.table;
  rest : chunks_to_come l.chunks ≡ drop l.table.count g.all;
  few : l.table.count ≤ 2 ^ 62;
  within : l.table.count ≤ length g.all;
}
