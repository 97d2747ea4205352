-- The rows of the classes that conditions name.
use Rattle.std.specs.Prelude.{ℕ}
use Rattle.algebra.specs.Bags.{Bag}
use Rattle.relations.specs.Relations.{given}
use Rattle.relations.specs.declared.subqueries.Subqueries.{Subqueries}

abbrev pub subqueries_given : Subqueries → ℕ → Bag
subqueries_given s = given s.classes.now s.relations.now
