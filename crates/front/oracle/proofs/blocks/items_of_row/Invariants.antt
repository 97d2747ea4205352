use Rattle.std.proofs.Common.{◌≡◌, map, take}
use Rattle.query.specs.Meaning.{item_of_row}
use Rattle.oracle.specs.Given.{env_of}
use Rattle.oracle.proofs.blocks.items_of_row.Given as goal

abbrev pub invariant-loop-item : goal.invariant-loop-item
invariant-loop-item l = l.values ≡ map (item_of_row (env_of l.env) l.row) (take l.item-index l.items)
