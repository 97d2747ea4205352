-- Groups of rows that come a chunk at a time. The rows are given by their numbers.
use Rattle.std.specs.Prelude.{◌≡◌, ◌+◌, ◌<◌, ℕ, Bool, List, length, map, slice_index_or}
use Rattle.std.specs.List.{AllZip, range_with_len}
use Rattle.schema.specs.Databases.{Row}
use Rattle.store.specs.Keys.{key_eq}
use Rattle.query.specs.Aggregates.{column_of}
use Rattle.algebra.specs.declared.expr.Aggregation.{Aggregation}
use Rattle.algebra.specs.Bags.{Env, nulls}
use Rattle.relations.specs.declared.relation.Relation.{Relation}
use Rattle.relations.specs.Relations.{numbered_env}
use Rattle.grouping.specs.declared.group_table.GroupTable.{GroupTable}
use Rattle.grouping.specs.KeyTables.{HasKeys}
use Rattle.grouping.specs.Groups.{AreAfter, GroupOf, added_at, first_seen, groups_by}

-- the values of a row in the columns of the keys
abbrev pub row_key : (ℕ → Env) → List ℕ → ℕ → Row
row_key row K n = map (row n) K

-- rows are the same where their keys are
abbrev pub same_key : (ℕ → Row) → ℕ → ℕ → Bool
same_key key m n = key_eq (key m) (key n)

-- the keys of the first rows, as they are first seen, and the groups of these rows
abbrev pub keys_seen : (ℕ → Row) → ℕ → List Row
keys_seen key count = map key (first_seen (same_key key) (range_with_len 0 count))

abbrev pub groups_seen : (ℕ → Row) → ℕ → List (GroupOf ℕ)
groups_seen key count = groups_by (same_key key) (range_with_len 0 count)

-- a relation has the rows from this number on
abbrev pub HasRowsFrom : (ℕ → Env) → ℕ → Relation → Type 0
HasRowsFrom row first r = (i : ℕ) → i < r.rows.count → numbered_env r nulls i ≡ row (first + i)

-- each of the rows from this number on comes to the group of its number
abbrev pub AreNumberedFrom : (ℕ → Row) → ℕ → List ℕ → Type 0
AreNumberedFrom key first numbers = (i : ℕ) → i < length numbers → groups_seen key (first + i + 1) ≡ added_at (slice_index_or numbers i 0) (first + i) (groups_seen key (first + i))

-- the keys of so many rows, and for each aggregate those of their groups
pub record HasGroups (K : List ℕ) (A : List Aggregation) (row : ℕ → Env) (t : GroupTable) : Type 0 where
  pub keys_are : HasKeys (length K) (keys_seen (row_key row K) t.count) t.keys
  pub held : AllZip (λ a r. AreAfter a.aggregate (λ n. row n (column_of a.aggregate)) (groups_seen (row_key row K) t.count) r.items) A t.running.items
