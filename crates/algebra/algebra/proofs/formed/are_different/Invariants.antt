use Rattle.std.proofs.Common.{◌≡◌, drop}
use Rattle.algebra.specs.Expressions.{aggregate_columns, are_different}
use Rattle.algebra.proofs.formed.are_different.Given as goal

abbrev pub invariant-loop-i : goal.invariant-loop-i
invariant-loop-i l = are_different (aggregate_columns l.added) ≡ are_different (aggregate_columns (drop l.i l.added))
