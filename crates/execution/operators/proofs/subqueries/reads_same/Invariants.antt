use Rattle.std.proofs.Common.{◌≡◌, true, take}
use Rattle.algebra.specs.Bags.{same_on}
use Rattle.relations.specs.Relations.{env_of}
use Rattle.operators.proofs.subqueries.reads_same.Given as goal

abbrev pub invariant-loop-column : goal.invariant-loop-column
invariant-loop-column l = same_on (take l.column-index l.columns) (env_of l.a) (env_of l.b) ≡ true
