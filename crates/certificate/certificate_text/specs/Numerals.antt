-- Numbers in decimal digits without leading zeros.
use Rattle.std.specs.Prelude.{ℕ, zero, suc, ◌+◌, nat_lt, Bool, not, ◌&&◌, ◌||◌, ◌==◌, List, length, map, slice_index, codes, if◌then◌else◌}
use Rattle.std.specs.Char.{is_ascii_digit}
use Rattle.std.specs.Cmp.Lexicographic.{slice_cmp}
use Rattle.std.specs.Int.Digits.{digits_of}
use Rattle.std.specs.List.{list_all}
use Rattle.std.specs.Ordering.{nat_cmp, is_lt}

-- a number of any size; `decimal` has at most 64 digits
unfoldable pub numeral : ℕ → List ℕ
numeral zero = codes "0"
numeral (suc n) = map (λ d. 48 + d) (digits_of 10 (suc n))

-- digits alone, of which a first 0 is the only one
abbrev pub has_numeral_form : List ℕ → Bool
has_numeral_form w = list_all is_ascii_digit w && (nat_lt 0 (length w) && (not (slice_index w 0 == 48) || length w == 1))

-- the first of two numerals is shorter, or of the same length and before the second in the order of bytes
abbrev pub is_numeral_below : List ℕ → List ℕ → Bool
is_numeral_below v w = if length v == length w then is_lt (slice_cmp nat_cmp v w) else nat_lt (length v) (length w)
