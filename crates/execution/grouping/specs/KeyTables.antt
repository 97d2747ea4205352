-- Keys of groups by columns.
use Rattle.std.specs.Prelude.{◌≡◌, ◌<◌, ℕ, List, [], length, map, slice_index_or, Option, None, Some}
use Rattle.std.specs.List.{AllByRecursion}
use Rattle.values.specs.declared.value.Value.{Value}
use Rattle.values.specs.declared.value.Value.TheVariants as value
use Rattle.schema.specs.Databases.{Row}
use Rattle.relations.specs.MadeColumns.{made_values}
use Rattle.grouping.specs.declared.key_table.KeyTable.{KeyTable}
use Rattle.grouping.specs.KeyBuckets.{AreHashed}

-- the value at a place of a key; Null where there is none
abbrev pub placed_value : Option ℕ → Row → Value
placed_value None key = value.Null
placed_value (Some place) key = slice_index_or key place value.Null

-- the values of the columns
abbrev pub kept_columns : KeyTable → List (List Value)
kept_columns t = map made_values t.columns.items

-- the table has these keys, of so many values each
pub record HasKeys (width : ℕ) (keys : List Row) (t : KeyTable) : Type 0 where
  pub width_is : length t.columns.items ≡ width
  pub columns_are : (place : ℕ) → place < width → slice_index_or (kept_columns t) place [] ≡ map (placed_value (Some place)) keys
  pub wide : AllByRecursion (λ key. length key ≡ width) keys
  pub hashed : AreHashed keys t.hashes
