use Rattle.std.proofs.Common.{◌≡◌, take}
use Rattle.schema.proofs.copies.copy_lists.Given as goal

-- the copies so far are what was gone over
abbrev pub invariant-loop-list : goal.invariant-loop-list
invariant-loop-list l = l.copied ≡ take l.list-index l.lists
