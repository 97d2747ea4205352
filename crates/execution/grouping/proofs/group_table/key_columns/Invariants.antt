use Rattle.std.proofs.Common.{◌≡◌, ℕ, map, take}
use Rattle.algebra.specs.Bags.{nulls}
use Rattle.relations.specs.Relations.{numbered_env}
use Rattle.relations.specs.RowColumns.{column_value}
use Rattle.grouping.proofs.group_table.key_columns.Given as goal

abbrev pub invariant-loop-key : goal.invariant-loop-key
invariant-loop-key l = (n : ℕ) → map (λ c. column_value c n) l.columns.items ≡ map (numbered_env l.chunk nulls n) (take l.key-index l.keys)
