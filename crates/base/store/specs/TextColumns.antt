-- A column of texts as a table keeps it.
use Rattle.std.specs.Prelude.{◌≡◌, ◌<◌, ℕ, false, List, [], length, slice_index_or, if◌then◌else◌}
use Rattle.values.specs.declared.value.Value.{Value}
use Rattle.values.specs.declared.value.Value.TheVariants as value
use Rattle.schema.specs.Databases.{Row}
use Rattle.store.specs.declared.text_column.TextColumn.{TextColumn}

-- the value in this row
abbrev pub text_at : TextColumn → ℕ → Value
text_at c i = if slice_index_or c.known.now i false then value.Text (slice_index_or c.texts.now i []) else value.Null

-- the column has a value for each row, which is the row's at this place
pub record AreTextsOf (rows : List Row) (place : ℕ) (c : TextColumn) : Type 0 where
  pub known : length c.known.now ≡ length rows
  pub texts : length c.texts.now ≡ length rows
  pub value : (i : ℕ) → i < length rows → slice_index_or (slice_index_or rows i []) place value.Null ≡ text_at c i
