use Rattle.std.proofs.Common.{◌≡◌, ℕ, map, take}
use Rattle.relations.specs.RowColumns.{column_value}
use Rattle.joins.specs.Keys.{left_at}
use Rattle.joins.proofs.keys.left_columns.Given as goal

abbrev pub invariant-loop-key : goal.invariant-loop-key
invariant-loop-key l = (i : ℕ) → map (λ c. column_value c i) l.columns.items ≡ map (left_at l.left i) (take l.key-index l.keys)
