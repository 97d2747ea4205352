-- A column of numbers as a table keeps it.
use Rattle.std.specs.Prelude.{◌≡◌, ◌<◌, ℕ, pos, false, List, [], length, slice_index_or, if◌then◌else◌}
use Rattle.values.specs.declared.value.Value.{Value}
use Rattle.values.specs.declared.value.Value.TheVariants as value
use Rattle.schema.specs.Databases.{Row}
use Rattle.store.specs.declared.numbers.Numbers.{Numbers}

-- the value in this row
abbrev pub number_at : Numbers → ℕ → Value
number_at c i = if slice_index_or c.known.now i false then value.Int (slice_index_or c.numbers.now i (pos 0)) else value.Null

-- the column has a value for each row, which is the row's at this place
pub record AreNumbersOf (rows : List Row) (place : ℕ) (c : Numbers) : Type 0 where
  pub known : length c.known.now ≡ length rows
  pub numbers : length c.numbers.now ≡ length rows
  pub value : (i : ℕ) → i < length rows → slice_index_or (slice_index_or rows i []) place value.Null ≡ number_at c i
