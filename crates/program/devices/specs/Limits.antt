-- What is read of texts of /proc.
use Rattle.std.specs.Prelude.{◌≡◌, ◌≢◌, ◌<◌, ◌++◌, ◌^◌, ℕ, List, [], length, slice_index_or, Option, None, Some, MatchOption, codes, bit_and, ◌==◌, ◌⊎◌}
use Rattle.std.specs.Str.{trim_start}
use Rattle.std.specs.Str.Lines.{lines}
use Rattle.std.specs.Str.Parse.{IsNumeral, digits_value, without_leading_plus}
use Rattle.std.specs.List.{before_first}

-- no line before this one begins with the words
abbrev pub NoneBefore : List ℕ → List (List ℕ) → ℕ → Type 0
NoneBefore words ls n = (k : ℕ) → k < n → (rest : List ℕ) → slice_index_or ls k [] ≢ words ++ rest

-- what stands behind the words on the first line that begins with them
abbrev pub IsBehind : List ℕ → List (List ℕ) → List ℕ → Type 0
IsBehind words ls rest = (n : ℕ) × (n < length ls) × (slice_index_or ls n [] ≡ words ++ rest) × NoneBefore words ls n

-- a text up to its first space, without the white space in front of it
abbrev pub first_word : List ℕ → List ℕ
first_word text = before_first (λ b. b == 32) (trim_start text)

-- a word is digits of a number of 64 bits
abbrev pub IsNumber : ℕ → List ℕ → Type 0
IsNumber radix word = IsNumeral radix (without_leading_plus word) × (digits_value radix (without_leading_plus word) < 2 ^ 64)

-- the number that the first word of a text is, if it is one
abbrev pub IsFirstNumber : ℕ → List ℕ → Option ℕ → Type 0
IsFirstNumber radix text result = MatchOption result (¬ (IsNumber radix (first_word text)))
    (λ n. IsNumber radix (first_word text) × (n ≡ digits_value radix (without_leading_plus (first_word text))))

-- the number behind some words at the beginning of a line of a text: of the first such line
abbrev pub IsNumberBehind : List ℕ → ℕ → List ℕ → Option ℕ → Type 0
IsNumberBehind words radix text result = (NoneBefore words (lines text) (length (lines text)) × (result ≡ None))
    ⊎ ((rest : List ℕ) × IsBehind words (lines text) rest × IsFirstNumber radix rest result)

-- a file that has these flags is written next at its end, where it is only appended to, else at its position
abbrev pub IsNextAmong : List ℕ → ℕ → Option ℕ → Option ℕ → Type 0
IsNextAmong descriptor size None result = result ≡ None
IsNextAmong descriptor size (Some flags) result = (bit_and flags 1024 ≡ 0 → IsNumberBehind (codes "pos:") 10 descriptor result) × (bit_and flags 1024 ≢ 0 → result ≡ Some size)

-- at which byte a file of so many bytes is written next, by what is said of its descriptor
abbrev pub IsNextByte : List ℕ → ℕ → Option ℕ → Type 0
IsNextByte descriptor size result = (flags : Option ℕ) × IsNumberBehind (codes "flags:") 8 descriptor flags × IsNextAmong descriptor size flags result
