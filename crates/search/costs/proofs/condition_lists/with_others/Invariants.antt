use Rattle.std.proofs.Common.{◌≡◌, map, take}
use Rattle.costs.specs.Cardinalities.{with_others}
use Rattle.costs.proofs.condition_lists.with_others.Given as goal

abbrev pub invariant-loop-condition : goal.invariant-loop-condition
invariant-loop-condition l = map (λ c. c.now) l.both.items ≡ with_others l.own (map (λ c. c.now) (take l.condition-index l.more))
