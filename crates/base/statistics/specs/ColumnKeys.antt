-- How many different keys a column has, Null left out: exactly where it is unique, else as estimated by linear counting (Whang,
-- Vander-Zanden and Taylor, A linear-time probabilistic counting algorithm for database applications, ACM TODS 15(2), 1990).
use Rattle.std.specs.Prelude.{◌≡◌, ◌<◌, ℕ, ◌+◌, ◌-◌, ◌*◌, ◌/◌, ◌%◌, ◌^◌, ◌==◌, ◌&&◌, Bool, false, not, List, [], ◌∷◌, length, map, filter, min, max, sum, nat_eq, slice_index_or, Option, Some, None, if◌then◌else◌}
use Rattle.std.specs.Int.{cast_unsigned, from_le_bytes, w32, w64}
use Rattle.std.specs.List.{list_any, range_with_len}
use Rattle.std.specs.Set.{is_member, distinct_count}
use Rattle.values.specs.Short.{IsShort}
use Rattle.values.specs.Truth.{is_null}
use Rattle.values.specs.declared.value.Value.{Value}
use Rattle.values.specs.declared.value.Value.TheVariants as value
use Rattle.schema.specs.declared.schema.Table.{Table}
use Rattle.schema.specs.Databases.{Row}
use Rattle.statistics.specs.declared.counts.TableColumn.{TableColumn}
use Rattle.statistics.specs.UniqueLists.{is_unique_column}

-- the column's values, those that aren't Null
abbrev pub values_in : ℕ → List Row → List Value
values_in place rows = filter (λ v. not (is_null v)) (map (λ row. slice_index_or row place value.Null) rows)

-- the column's numbers have 64 bits
abbrev pub AreShort : ℕ → List Row → Type 0
AreShort place rows = (row : ℕ) → row < length rows → IsShort (slice_index_or (slice_index_or rows row []) place value.Null)

-- ---- slots

-- the upper half of a product of 64 bits
abbrev pub upper_half : ℕ → ℕ
upper_half product = product % 2 ^ 64 / 2 ^ 32

-- 32 bits that depend on all of a number's
unfoldable pub mix : ℕ → ℕ
mix x = let half = upper_half (x * 0x9E3779B97F4A7C15) in upper_half (half * half * 0xD6E8FEB86659FD93)

-- a hash behind which a number comes
abbrev pub hash_behind : ℕ → ℕ → ℕ
hash_behind h number = (h * 1099511628211 + number) % 2 ^ 64

-- a hash behind which bytes come: four at a time as a number of 32 bits, the first the least, and what is left of them one by one
abbrev pub bytes_hash : ℕ → List ℕ → ℕ
bytes_hash h [] = h
bytes_hash h (a ∷ []) = hash_behind h a
bytes_hash h (a ∷ b ∷ []) = hash_behind (hash_behind h a) b
bytes_hash h (a ∷ b ∷ c ∷ []) = hash_behind (hash_behind (hash_behind h a) b) c
bytes_hash h (a ∷ b ∷ c ∷ d ∷ more) = bytes_hash (hash_behind h (from_le_bytes w32 (a ∷ b ∷ c ∷ d ∷ []))) more

abbrev pub text_number : List ℕ → ℕ
text_number bytes = bytes_hash 14695981039346656037 bytes

-- a value as a number of 64 bits
abbrev pub number_of : Value → ℕ
number_of value.Null = 0
number_of (value.Int n) = cast_unsigned w64 n
number_of (value.Text bytes) = text_number bytes

-- the slot of a number, among so many
abbrev pub slot_at : ℕ → ℕ → ℕ
slot_at slots number = mix number * slots / 2 ^ 32

-- the slots of values, among so many
abbrev pub slots_of : ℕ → List Value → List ℕ
slots_of slots values = map (λ v. slot_at slots (number_of v)) values

-- a mark stands at the slot of each of the values, and nowhere else
abbrev pub AreMarked : ℕ → List Value → List Bool → Type 0
AreMarked slots values marks = (s : ℕ) → slice_index_or marks s false ≡ is_member nat_eq (slots_of slots values) s

-- ---- how many values

-- so many thousandths of a value are expected until so many slots are marked: where j are, slots / (slots - j) values until another one is
abbrev pub thousandths : ℕ → ℕ → ℕ
thousandths slots marked = sum (map (λ j. 1000 * slots / (slots - j)) (range_with_len 0 marked))

-- how many different values are expected, as the nearest whole number, and no more than there are values
abbrev pub estimate : ℕ → ℕ → ℕ → ℕ
estimate slots marked values = min values ((thousandths slots marked + 500) / 1000)

-- as many slots as rows
abbrev pub estimated_keys : ℕ → List Row → ℕ
estimated_keys place rows =
    let values = values_in place rows in
    let slots = max (length rows) 1 in
    estimate slots (distinct_count nat_eq (slots_of slots values)) (length values)

-- ---- of a table

abbrev pub keys_of : Table → List Row → ℕ → ℕ
keys_of t rows place = if is_unique_column t place then length (values_in place rows) else estimated_keys place rows

-- whether the column with this place in the table with this number is to be counted
abbrev pub is_counted : List TableColumn → ℕ → ℕ → Bool
is_counted counted table place = list_any (λ c. (c.table == table) && (c.place == place)) counted

abbrev pub known_keys : Table → List Row → ℕ → Bool → Option ℕ
known_keys t rows place is_counted = if is_counted then Some (keys_of t rows place) else None

-- of each column of the table with this number
abbrev pub column_keys : List TableColumn → ℕ → Table → List Row → List (Option ℕ)
column_keys counted table t rows = map (λ place. known_keys t rows place (is_counted counted table place)) (range_with_len 0 (length t.columns))
