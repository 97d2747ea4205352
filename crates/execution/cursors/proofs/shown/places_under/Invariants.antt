use Rattle.std.proofs.Common.{◌≡◌, map, take}
use Rattle.relations.specs.Relations.{column_place}
use Rattle.cursors.proofs.shown.places_under.Given as goal

abbrev pub invariant-loop-column : goal.invariant-loop-column
invariant-loop-column l = l.places.items ≡ map (column_place l.heading) (take l.column-index l.columns)
