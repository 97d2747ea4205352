use Rattle.std.proofs.Common.{◌≡◌, take}
use Rattle.props.specs.Given.{at_places}
use Rattle.closure.proofs.learning.columns_at.Given as goal

-- those of the first places
abbrev pub invariant-loop-place : goal.invariant-loop-place
invariant-loop-place l = l.columns.items ≡ at_places l.table (take l.place-index l.places)
