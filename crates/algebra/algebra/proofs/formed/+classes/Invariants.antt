use Rattle.std.proofs.Common.{◌≡◌, true, take, nat_lt}
use Rattle.algebra.specs.Expressions.{subqueries_pass}
use Rattle.algebra.proofs.formed.+classes.Given as goal

abbrev pub invariant-all_name_below-loop-condition : goal.invariant-all_name_below-loop-condition
invariant-all_name_below-loop-condition l = subqueries_pass (λ g. nat_lt g l.bound) (take l.condition-index l.conditions) ≡ true
