use Rattle.std.proofs.Common.{map, take}
use Rattle.query.specs.Rows.{value_at}
use Rattle.query.specs.Aggregates.{column_of}
use Rattle.query.specs.Running.{IsAfter}
use Rattle.oracle.specs.Given.{rows_at}
use Rattle.oracle.proofs.aggregates.aggregate.Given as goal

abbrev pub invariant-loop-row : goal.invariant-loop-row
invariant-loop-row l = IsAfter l.of (map (value_at (column_of l.of)) (rows_at (take l.row-index l.rows))) l.running
