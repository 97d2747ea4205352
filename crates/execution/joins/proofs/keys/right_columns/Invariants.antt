use Rattle.std.proofs.Common.{◌≡◌, ℕ, map, take}
use Rattle.relations.specs.RowColumns.{column_value}
use Rattle.joins.specs.Keys.{right_at}
use Rattle.joins.proofs.keys.right_columns.Given as goal

abbrev pub invariant-loop-key : goal.invariant-loop-key
invariant-loop-key l = (j : ℕ) → map (λ c. column_value c j) l.columns.items ≡ map (right_at l.right j) (take l.key-index l.keys)
