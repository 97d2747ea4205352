use Rattle.std.proofs.Common.{◌≡◌, ◌+◌, length}
use Rattle.query.specs.Aggregates.{column_of}
use Rattle.grouping.specs.Groups.{AreAfter}
use Rattle.grouping.specs.GroupTables.{groups_seen, keys_seen, row_key}
use Rattle.grouping.specs.KeyTables.{HasKeys}
use Rattle.grouping.proofs.Zips.{ZipTo}
use Rattle.grouping.proofs.group_table.GroupTable.add.Given as goal

abbrev pub ghost-group_numbers : goal.ghost-group_numbers
ghost-group_numbers g a = (row_key g.of.1 g.of.0, a.first)

abbrev pub ghost-add_rows : goal.ghost-add_rows
ghost-add_rows g a = (row_key g.of.1 g.of.0, g.of.1)

abbrev pub invariant-loop-place : goal.invariant-loop-place
invariant-loop-place g l = record {
  held : ZipTo (λ a r. AreAfter a.aggregate (λ n. g.of.1 n (column_of a.aggregate)) (groups_seen (row_key g.of.1 g.of.0) (l.fn.self.count + l.chunk.rows.count)) r.items)
      (λ a r. AreAfter a.aggregate (λ n. g.of.1 n (column_of a.aggregate)) (groups_seen (row_key g.of.1 g.of.0) l.fn.self.count) r.items) l.place l.added l.self.running.items;
  keys : HasKeys (length g.of.0) (keys_seen (row_key g.of.1 g.of.0) (l.fn.self.count + l.chunk.rows.count)) l.self.keys;
  count : l.self.count ≡ l.fn.self.count;
}
