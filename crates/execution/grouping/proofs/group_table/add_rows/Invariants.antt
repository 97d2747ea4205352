use Rattle.std.proofs.Common.{◌+◌}
use Rattle.query.specs.Aggregates.{column_of}
use Rattle.grouping.specs.Groups.{AreAfter}
use Rattle.grouping.specs.GroupTables.{groups_seen}
use Rattle.grouping.proofs.group_table.add_rows.Given as goal

abbrev pub invariant-loop-row : goal.invariant-loop-row
invariant-loop-row g l = AreAfter l.fn.of (λ n. g.rows.1 n (column_of l.fn.of)) (groups_seen g.rows.0 (l.fn.first + l.row)) l.running.items
