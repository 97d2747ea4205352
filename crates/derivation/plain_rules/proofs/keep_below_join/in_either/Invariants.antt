use Rattle.std.proofs.Common.{◌≡◌, ◌||◌, filter, take}
use Rattle.algebra.specs.Columns.{has}
use Rattle.plain_rules.proofs.keep_below_join.in_either.Given as goal

abbrev pub invariant-loop-column : goal.invariant-loop-column
invariant-loop-column l = l.needed.items ≡ filter (λ c. has l.kept c || has l.read c) (take l.column-index l.columns)
