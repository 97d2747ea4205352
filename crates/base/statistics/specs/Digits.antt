-- The keys of an index as whole numbers: each of its columns has a digit, and a key's digits make up its slot.
use Rattle.std.specs.Prelude.{◌≡◌, ℕ, ◌+◌, ◌*◌, ◌<◌, ◌≤ℤ◌, ◌-ℤ◌, ℤ, Bool, List, [], ◌∷◌, length, map, unsigned_abs, slice_index_or, nat_eq, false}
use Rattle.std.specs.List.{fold, range_with_len}
use Rattle.std.specs.Set.{is_member}
use Rattle.values.specs.declared.value.Value.{Value}
use Rattle.values.specs.declared.value.Value.TheVariants as value
use Rattle.schema.specs.Databases.{Row}
use Rattle.store.specs.NumberColumns.{number_at, AreNumbersOf}
use Rattle.statistics.specs.declared.digits.DigitColumn.{DigitColumn}

-- a value's digit: that of Null is 0, that of the least number 1
abbrev pub digit_of : ℤ → Value → ℕ
digit_of least value.Null = 0
digit_of least (value.Int n) = unsigned_abs (n -ℤ least) + 1
digit_of least (value.Text t) = 0

-- the value is Null or a number from the least one on, and its digit is below the base
abbrev pub HasDigit : ℤ → ℕ → Value → Type 0
HasDigit least base value.Null = 0 < base
HasDigit least base (value.Int n) = (least ≤ℤ n) × (unsigned_abs (n -ℤ least) + 1 < base)
HasDigit least base (value.Text t) = ⊥

-- the column has a digit in this row
pub record HasDigitIn (row : ℕ) (c : DigitColumn) : Type 0 where
  pub known : row < length c.column.known.now
  pub numbers : row < length c.column.numbers.now
  pub digit : HasDigit c.least c.base (number_at c.column row)

-- the column has a digit in each of so many rows
abbrev pub HasDigits : ℕ → DigitColumn → Type 0
HasDigits count c = (row : ℕ) → row < count → HasDigitIn row c

abbrev pub digit_in : ℕ → DigitColumn → ℕ
digit_in row c = digit_of c.least (number_at c.column row)

-- how many slots the digits can make up
abbrev pub slots_of : List DigitColumn → ℕ
slots_of cs = fold (λ n c. n * c.base) 1 cs

-- the slot of a row's key
abbrev pub slot_in : ℕ → List DigitColumn → ℕ
slot_in row cs = fold (λ s c. s * c.base + digit_in row c) 0 cs

-- a mark stands at the slot of each of the first rows, and nowhere else
abbrev pub AreMarked : List DigitColumn → ℕ → List Bool → Type 0
AreMarked cs count marks = (s : ℕ) → slice_index_or marks s false ≡ is_member nat_eq (map (λ row. slot_in row cs) (range_with_len 0 count)) s

-- the columns are those of the rows at the places, and have digits in all of them
abbrev pub ColumnsOf : List Row → List ℕ → List DigitColumn → Type 0
ColumnsOf rows [] [] = Unit {0}
ColumnsOf rows [] (c ∷ cs) = ⊥
ColumnsOf rows (p ∷ ps) [] = ⊥
ColumnsOf rows (p ∷ ps) (c ∷ cs) = AreNumbersOf rows p c.column × HasDigits (length rows) c × ColumnsOf rows ps cs
