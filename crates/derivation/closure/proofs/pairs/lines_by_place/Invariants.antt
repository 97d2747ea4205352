use Rattle.std.proofs.Common.{◌≡◌, ◌+◌, length, map}
use Rattle.closure.specs.Places.{AreEntered}
use Rattle.closure.proofs.pairs.lines_by_place.Given as goal

abbrev pub invariant-loop-made : goal.invariant-loop-made
invariant-loop-made l = length l.over.items ≡ l._made + 1

abbrev pub invariant-loop-line : goal.invariant-loop-line
invariant-loop-line l = AreEntered l.log.log (l.line) (map (λ v. v.items) l.over.items)
