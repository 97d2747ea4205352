use Rattle.std.proofs.Common.{◌≡◌, map, take}
use Rattle.query.specs.Meaning.{item_of_group}
use Rattle.oracle.specs.Given.{env_of, rows_at}
use Rattle.oracle.proofs.blocks.items_of_group.Given as goal

abbrev pub invariant-loop-item : goal.invariant-loop-item
invariant-loop-item l = l.values ≡ map (item_of_group l.keys (env_of l.env) (record { key = l.key; rows = rows_at l.members })) (take l.item-index l.items)
