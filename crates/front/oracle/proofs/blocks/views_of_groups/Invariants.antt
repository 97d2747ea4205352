use Rattle.std.proofs.Common.{◌≡◌, map, take}
use Rattle.query.specs.Aggregates.{group_of}
use Rattle.oracle.specs.Given.{env_of}
use Rattle.oracle.specs.Views.{view_of_group}
use Rattle.oracle.proofs.blocks.views_of_groups.Given as goal

abbrev pub invariant-loop-key : goal.invariant-loop-key
invariant-loop-key l = l.all.items ≡ map (view_of_group l.block (env_of l.env)) (map (group_of l.block.keys l.source) (take l.key-index l.key-items))
