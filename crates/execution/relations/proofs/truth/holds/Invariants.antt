use Rattle.std.proofs.Common.{◌≡◌, true, take}
use Rattle.algebra.specs.Conditions.{holds}
use Rattle.relations.specs.Relations.{env_of}
use Rattle.relations.specs.Subqueries.{subqueries_given}
use Rattle.relations.proofs.truth.holds.Given as goal

abbrev pub invariant-loop-condition : goal.invariant-loop-condition
invariant-loop-condition l = holds (subqueries_given l.subqueries) (take l.condition-index l.conditions) (env_of l.env) ≡ true
