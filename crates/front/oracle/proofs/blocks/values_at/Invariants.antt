use Rattle.std.proofs.Common.{◌≡◌, take}
use Rattle.schema.specs.Databases.{values_at}
use Rattle.oracle.proofs.blocks.values_at.Given as goal

abbrev pub invariant-loop-place : goal.invariant-loop-place
invariant-loop-place l = l.values ≡ values_at (take l.place-index l.places) l.row
