use Rattle.std.proofs.Common.{◌≡◌, map, take}
use Rattle.props.specs.Given.{at_places}
use Rattle.closure.proofs.learning.unique_lists.Given as goal

-- those of the first lists
abbrev pub invariant-loop-places : goal.invariant-loop-places
invariant-loop-places l = map (λ v. v.items) l.lists.items ≡ map (at_places l.table) (take l.places-index l.table.entry.unique)
