use Rattle.std.proofs.Common.{◌≡◌, filter, take}
use Rattle.schema.specs.Databases.{values_at}
use Rattle.query.specs.Rows.{same_rows}
use Rattle.oracle.specs.Given.{rows_at}
use Rattle.oracle.proofs.blocks.members.Given as goal

abbrev pub invariant-loop-row : goal.invariant-loop-row
invariant-loop-row l = rows_at l.found.items ≡ filter (λ r. same_rows l.key (values_at l.keys r)) (take l.row-index l.source)
