use Rattle.std.proofs.Common.{◌≡◌, map, take}
use Rattle.oracle.specs.Given.{env_of}
use Rattle.oracle.specs.Views.{view_of_row}
use Rattle.oracle.proofs.blocks.views_of_rows.Given as goal

abbrev pub invariant-loop-row : goal.invariant-loop-row
invariant-loop-row l = l.all.items ≡ map (view_of_row l.block (env_of l.env)) (take l.row-index l.source)
