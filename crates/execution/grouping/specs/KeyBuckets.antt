-- Keys of rows, and the groups that have them.
use Rattle.std.specs.Prelude.{◌≡◌, ◌≢◌, ◌≤◌, ◌<◌, ◌/◌, ◌^◌, ℕ, Bool, List, [], length, map, fold, slice_index_or}
use Rattle.schema.specs.Databases.{Row}
use Rattle.store.specs.Keys.{key_eq}
use Rattle.relations.specs.declared.row_columns.RowColumn.{RowColumn}
use Rattle.relations.specs.RowColumns.{column_value}
use Rattle.joins.specs.Hashes.{value_hash}
use Rattle.grouping.specs.declared.group_hashes.GroupHashes.{GroupHashes}
use Rattle.grouping.specs.GroupHashes.{HasChains}

-- the values of a row in columns
abbrev pub column_key : List RowColumn → ℕ → Row
column_key columns n = map (λ column. column_value column n) columns

-- the group that has a key, or the next one where none has
pub record IsGroup (keys : List Row) (wanted : Row) (group : ℕ) : Type 0 where
  pub within : group ≤ length keys
  pub same : group < length keys → wanted ≡ slice_index_or keys group []
  pub new : group ≡ length keys → (j : ℕ) → j < length keys → wanted ≢ slice_index_or keys j []

-- rows have the same values in the columns
abbrev pub same_in : List RowColumn → ℕ → ℕ → Bool
same_in columns m n = key_eq (column_key columns m) (column_key columns n)

-- what a key hashes to: the high half of the hash of its values, one behind the other
abbrev pub key_hash : Row → ℕ
key_hash key = fold value_hash 0 key / 2 ^ 32

-- the groups with these keys are found by their hashes
pub record AreHashed (keys : List Row) (h : GroupHashes) : Type 0 where
  pub hashes_are : h.hashes.items ≡ map key_hash keys
  pub chained : HasChains h.hashes.items h.chains
