-- A table that is kept by columns, and the rows that it is.
use Rattle.std.specs.Prelude.{◌≡◌, ℕ, ℤ, pos, false, not, List, [], ◌∷◌, ◌++◌, length, map, slice_index_or, if◌then◌else◌, FitsSigned}
use Rattle.std.specs.Int.{w64}
use Rattle.std.specs.List.{range_with_len}
use Rattle.values.specs.declared.value.Value.{Value}
use Rattle.values.specs.declared.value.Value.TheVariants as value
use Rattle.values.specs.Truth.{is_null}
use Rattle.schema.specs.declared.schema.Kind.{Kind}
use Rattle.schema.specs.declared.schema.Kind.TheVariants as kind
use Rattle.schema.specs.Databases.{Row}
use Rattle.store.specs.declared.cells.Entries.{Entries}
use Rattle.store.specs.declared.cells.Entries.TheVariants as entries
use Rattle.store.specs.declared.cells.ColumnCells.{ColumnCells}

-- a column of the kind can have the value
abbrev pub Takes : Kind → Value → Type 0
Takes k value.Null = Unit {0}
Takes k (value.Int n) = (k ≡ kind.Int) × FitsSigned w64 n
Takes k (value.Text t) = k ≡ kind.Text

abbrev pub TakeRow : List Kind → Row → Type 0
TakeRow [] [] = Unit {0}
TakeRow [] (v ∷ vs) = ⊥
TakeRow (k ∷ ks) [] = ⊥
TakeRow (k ∷ ks) (v ∷ vs) = Takes k v × TakeRow ks vs

abbrev pub kind_of : Entries → Kind
kind_of (entries.Numbers ns) = kind.Int
kind_of (entries.Texts ts) = kind.Text

abbrev pub size_of : Entries → ℕ
size_of (entries.Numbers ns) = length ns
size_of (entries.Texts ts) = length ts

abbrev pub entry_at : Entries → ℕ → Value
entry_at (entries.Numbers ns) i = value.Int (slice_index_or ns i (pos 0))
entry_at (entries.Texts ts) i = value.Text (slice_index_or ts i [])

-- the column has so many values
pub record HasCells (n : ℕ) (c : ColumnCells) : Type 0 where
  pub known : length c.known ≡ n
  pub entries : size_of c.entries ≡ n

-- the value in this row
abbrev pub cell_at : ColumnCells → ℕ → Value
cell_at c i = if slice_index_or c.known i false then entry_at c.entries i else value.Null

abbrev pub row_at : List ColumnCells → ℕ → Row
row_at cs i = map (λ c. cell_at c i) cs

-- the first n rows
abbrev pub rows_of : List ColumnCells → ℕ → List Row
rows_of cs n = map (row_at cs) (range_with_len 0 n)

-- the rows, and the kind of each column
pub record Kept : Type 0 where
  pub kinds : List Kind
  pub rows : List Row

-- ---- a value more

abbrev pub number_in : Value → ℤ
number_in value.Null = pos 0
number_in (value.Int n) = n
number_in (value.Text t) = pos 0

abbrev pub text_in : Value → List ℕ
text_in value.Null = []
text_in (value.Int n) = []
text_in (value.Text t) = t

abbrev pub with_entry : Entries → Value → Entries
with_entry (entries.Numbers ns) v = entries.Numbers (ns ++ number_in v ∷ [])
with_entry (entries.Texts ts) v = entries.Texts (ts ++ text_in v ∷ [])

abbrev pub with_value : ColumnCells → Value → ColumnCells
with_value c v = record { known = c.known ++ not (is_null v) ∷ []; entries = with_entry c.entries v }

-- each column has one value of the row more, while there are any
abbrev pub with_row : List ColumnCells → Row → List ColumnCells
with_row [] vs = []
with_row (c ∷ cs) [] = c ∷ cs
with_row (c ∷ cs) (v ∷ vs) = with_value c v ∷ with_row cs vs
