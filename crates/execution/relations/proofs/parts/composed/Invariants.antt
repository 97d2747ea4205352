use Rattle.std.proofs.Common.{◌≡◌, get_or, map, take}
use Rattle.relations.proofs.parts.composed.Given as goal

abbrev pub invariant-loop-number : goal.invariant-loop-number
invariant-loop-number l = l.all.items ≡ map (λ n. get_or l.earlier n l.none) (take l.number-index l.numbers)
