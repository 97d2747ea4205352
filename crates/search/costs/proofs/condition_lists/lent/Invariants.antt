use Rattle.std.proofs.Common.{◌≡◌, map, take}
use Rattle.costs.proofs.condition_lists.lent.Given as goal

abbrev pub invariant-loop-condition : goal.invariant-loop-condition
invariant-loop-condition l = map (λ c. c.now) l.lent.items ≡ take l.condition-index l.conditions
