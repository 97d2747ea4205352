-- How the decimal of a whole number begins, and what digits write.
use Rattle.std.specs.Prelude.{◌≡◌, ◌<◌, ◌^◌, ℕ, List, [], ◌∷◌, Bool, true, false, ◌&&◌, ◌==◌, nat_le, if◌then◌else◌}
use Rattle.std.specs.Str.Parse.{AllDigits, digits_value}

-- with a digit that isn't `0`
abbrev pub begins_count : List ℕ → Bool
begins_count [] = false
begins_count (b ∷ bs) = nat_le 49 b && nat_le b 57

-- with such a digit, which a `-` may precede; or it is `0`
abbrev pub begins_number : List ℕ → Bool
begins_number [] = false
begins_number (b ∷ []) = if b == 48 then true else begins_count (b ∷ [])
begins_number (b ∷ c ∷ bs) = if b == 45 then begins_count (c ∷ bs) else begins_count (b ∷ c ∷ bs)

-- the bytes are digits, and the number that they write has 64 bits
pub record IsCount (bytes : List ℕ) (n : ℕ) : Type 0 where
  pub digits : AllDigits 10 bytes
  pub number : n ≡ digits_value 10 bytes
  pub short : n < 2 ^ 63
