use Rattle.std.proofs.Common.{◌≡◌, [], length}
use Rattle.std.specs.List.{AllByRecursion}
use Rattle.grouping.proofs.group_table.GroupTable.new.Given as goal

abbrev pub invariant-loop : goal.invariant-loop
invariant-loop l = record {
  each : AllByRecursion (λ r. r.items ≡ []) l.running.items;
  many : length l.running.items ≡ l.index;
}
