use Rattle.std.proofs.Common.{◌≡◌, ◌<◌, ◌≤◌, ◌++◌, ◌∷◌, [], ℕ, get_or, length}
use Rattle.values.specs.declared.value.Value.TheVariants.{Null}
use Rattle.grouping.specs.KeyBuckets.{column_key}
use Rattle.grouping.specs.KeyTables.{kept_columns}
use Rattle.grouping.proofs.key_table.KeyTable.push.Given as goal

abbrev pub invariant-loop-place : goal.invariant-loop-place
invariant-loop-place g l = record {
  width : length l.self.columns.items ≡ length l.columns;
  put : (place : ℕ) → place < l.place → get_or (kept_columns l.self) place [] ≡ get_or (kept_columns l.fn.self) place [] ++ get_or (column_key l.columns l.row) place Null ∷ [];
  left : (place : ℕ) → l.place ≤ place → get_or (kept_columns l.self) place [] ≡ get_or (kept_columns l.fn.self) place [];
  hashes : l.self.hashes ≡ l.fn.self.hashes;
}
