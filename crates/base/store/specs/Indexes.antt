-- The indexes of tables: all rows of a table by their numbers, sorted by some columns; equal keys stand in the table's order.
use Rattle.std.specs.Prelude.{ℕ, List, [], length, slice_index_or}
use Rattle.std.specs.List.{range_with_len}
use Rattle.std.specs.List.Sorted.{IsPermutation, IsSorted}
use Rattle.std.specs.Ordering.{nat_cmp, then_cmp}
use Rattle.std.specs.declared.cmp.Ordering.{Ordering}
use Rattle.values.specs.declared.value.Value.{Value}
use Rattle.values.specs.declared.value.Value.TheVariants as value
use Rattle.values.specs.Order.{order, by_keys}
use Rattle.schema.specs.Databases.{Row}

-- the value of the row with this number at a place
abbrev pub value_at : List Row → ℕ → ℕ → Value
value_at rows i place = slice_index_or (slice_index_or rows i []) place value.Null

-- two rows by their values at a place, in the total order: Null first
abbrev pub place_order : List Row → ℕ → ℕ → ℕ → Ordering
place_order rows place i j = order (value_at rows i place) (value_at rows j place)

-- by the places in turn, and where all tie by their numbers
abbrev pub index_order : List Row → List ℕ → ℕ → ℕ → Ordering
index_order rows places = then_cmp (by_keys (place_order rows) places) nat_cmp

-- each row's number once, sorted
pub record IsIndex (rows : List Row) (places numbers : List ℕ) : Type 0 where
  pub each : IsPermutation (range_with_len 0 (length rows)) numbers
  pub sorted : IsSorted (index_order rows places) numbers
