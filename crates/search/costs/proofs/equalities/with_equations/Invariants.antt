use Rattle.std.proofs.Common.{◌≡◌, ◌++◌, map, take}
use Rattle.costs.specs.Equalities as spec
use Rattle.costs.proofs.equalities.with_equations.Given as goal

abbrev pub invariant-loop-condition : goal.invariant-loop-condition
invariant-loop-condition l = l.all.items ≡ l.equations ++ spec.equations (map (λ c. c.now) (take l.condition-index l.condition-items))
