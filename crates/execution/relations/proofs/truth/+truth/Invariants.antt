use Rattle.std.proofs.Common.{◌≡◌, fold, map, take}
use Rattle.values.specs.Truth.{conjunction, disjunction}
use Rattle.algebra.specs.Conditions.{truth}
use Rattle.relations.specs.Relations.{env_of}
use Rattle.relations.specs.Subqueries.{subqueries_given}
use Rattle.relations.proofs.truth.+truth.Given as goal

abbrev pub invariant-all-loop-condition : goal.invariant-all-loop-condition
invariant-all-loop-condition l = l.all ≡ fold conjunction l.fn.first (map (λ c. truth c (subqueries_given l.subqueries) (env_of l.env)) (take l.condition-index l.conditions))

abbrev pub invariant-any-loop-condition : goal.invariant-any-loop-condition
invariant-any-loop-condition l = l.any ≡ fold disjunction l.fn.first (map (λ c. truth c (subqueries_given l.subqueries) (env_of l.env)) (take l.condition-index l.conditions))
