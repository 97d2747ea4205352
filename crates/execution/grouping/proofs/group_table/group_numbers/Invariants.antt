use Rattle.std.proofs.Common.{◌≡◌, ◌+◌, length}
use Rattle.grouping.specs.GroupTables.{AreNumberedFrom, keys_seen}
use Rattle.grouping.specs.KeyTables.{HasKeys}
use Rattle.grouping.proofs.group_table.group_numbers.Given as goal

abbrev pub ghost-number_of : goal.ghost-number_of
ghost-number_of g a = keys_seen g.of.0 (g.of.1 + a.row)

abbrev pub invariant-loop-row : goal.invariant-loop-row
invariant-loop-row g l = record {
  keys : HasKeys (length l.columns) (keys_seen g.of.0 (g.of.1 + l.row)) l.keys;
  numbered : AreNumberedFrom g.of.0 g.of.1 l.numbers.items;
  each : length l.numbers.items ≡ l.row;
}
