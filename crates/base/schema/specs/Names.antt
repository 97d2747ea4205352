-- Names of tables and columns, and what bears them (this project's profile of SQL).
use Rattle.std.specs.Prelude.{ℕ, List, [], ◌∷◌, length, Bool, true, false, not, ◌&&◌, ◌||◌, ◌==◌, Option, nat_le, nat_lt, bytes_eq, position}
use Rattle.std.specs.List.{list_any, list_all}
use Rattle.std.specs.Option.{is_none}
use Rattle.values.specs.Words.{reserved_words}

abbrev pub Name : Type 0
Name = List ℕ

unfoldable pub is_reserved : Name → Bool
is_reserved name = list_any (λ word. bytes_eq word name) reserved_words

-- `a` to `z` and `_`
abbrev pub is_small_letter : ℕ → Bool
is_small_letter b = (nat_le 97 b && nat_le b 122) || (b == 95)

-- these, and `0` to `9`
abbrev pub is_name_byte : ℕ → Bool
is_name_byte b = is_small_letter b || (nat_le 48 b && nat_le b 57)

-- a letter, then letters and digits, at most 63 bytes, and no reserved word
unfoldable pub is_name : Name → Bool
is_name [] = false
is_name (b ∷ bs) = is_small_letter b && list_all is_name_byte bs && not (is_reserved (b ∷ bs)) && nat_lt (length bs) 63

-- the place of the first that bears the name
abbrev pub place_of : {A : Type 0} → (A → Name) → List A → Name → Option ℕ
place_of name_of xs name = position (λ x. bytes_eq (name_of x) name) xs

-- whether no two bear one name
unfoldable pub are_different : {A : Type 0} → (A → Name) → List A → Bool
are_different name_of [] = true
are_different name_of (x ∷ xs) = is_none (place_of name_of xs (name_of x)) && are_different name_of xs
