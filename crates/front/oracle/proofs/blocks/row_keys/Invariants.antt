use Rattle.std.proofs.Common.{◌≡◌, map, take}
use Rattle.schema.specs.Databases.{values_at}
use Rattle.oracle.proofs.blocks.row_keys.Given as goal

abbrev pub invariant-loop-row : goal.invariant-loop-row
invariant-loop-row l = l.all.items ≡ map (values_at l.keys) (take l.row-index l.source)
