-- The token at the front of a text, read from the left.
use Rattle.std.specs.Prelude.{ℕ, ℤ, pos, negsuc, ◌+◌, ◌^◌, ◌==◌, ◌||◌, ◌&&◌, ◌≤◌, nat_lt, Bool, if◌then◌else◌, [], ◌∷◌, ◌++◌, length, map, take, drop, slice_index, Option, Some, None, Result, Ok, Err}
use Rattle.std.specs.Char.{is_ascii_digit, to_ascii_lowercase}
use Rattle.std.specs.List.{prefix_len}
use Rattle.std.specs.Str.{IsAscii}
use Rattle.std.specs.Str.Parse.{signed_digits_value}
use Rattle.values.specs.declared.truth.Comparison.{Comparison}
use Rattle.values.specs.declared.truth.Comparison.TheVariants as by
use Rattle.sql_parse.specs.declared.fault.ParseReason.{ParseReason}
use Rattle.sql_parse.specs.declared.fault.ParseReason.TheVariants.{NoToken, OpenText, NumberRange}
use Rattle.sql_parse.specs.declared.fault.ParseRefusal.{ParseRefusal}
use Rattle.sql_parse.specs.declared.lexer.Class.{Class}
use Rattle.sql_parse.specs.declared.lexer.Class.TheVariants.{Space, Word, Digit}
use Rattle.sql_parse.specs.declared.token.Keyword.{Keyword}
use Rattle.sql_parse.specs.declared.token.Symbol.{Symbol}
use Rattle.sql_parse.specs.declared.token.Symbol.TheVariants as s
use Rattle.sql_parse.specs.declared.token.TokenKind.{TokenKind}
use Rattle.sql_parse.specs.declared.token.TokenKind.TheVariants as token
use Rattle.sql_parse.specs.Tokens.{Bytes, is_space, is_word_start, is_word_character, keyword_of}

-- the byte is of the class
abbrev pub has : Class → ℕ → Bool
has Space = is_space
has Word = is_word_character
has Digit = is_ascii_digit

-- what a reader gives: the token, and what is behind it
abbrev pub Lexed : Type 0
Lexed = Result (TokenKind × Bytes) ParseRefusal

-- why, and at which byte
abbrev pub refusal : ParseReason → ℕ → ParseRefusal
refusal reason at = record { reason = reason; at = at }

-- the bytes up to there are ASCII, so that a text may be cut there
pub record IsCut (bytes : Bytes) (len : ℕ) : Type 0 where
  pub within : len ≤ length bytes
  pub ascii : IsAscii (take len bytes)

abbrev pub word_len : Bytes → ℕ
word_len bytes = prefix_len is_word_character bytes

abbrev pub digits_len : Bytes → ℕ
digits_len bytes = prefix_len is_ascii_digit bytes

abbrev pub word_kind_by : Bytes → Option Keyword → TokenKind
word_kind_by word None = token.Name word
word_kind_by word (Some keyword) = token.Keyword keyword

-- a reserved word or a name, in lower case
abbrev pub word_kind : Bytes → TokenKind
word_kind word = word_kind_by word (keyword_of word)

unfoldable pub word_at : Bytes → TokenKind × Bytes
word_at bytes = (word_kind (map to_ascii_lowercase (take (word_len bytes) bytes)), drop (word_len bytes) bytes)

-- a digit comes next, or `-` and then a digit
abbrev pub starts_number : Bytes → Bool
starts_number bytes = is_ascii_digit (slice_index bytes 0) || (slice_index bytes 0 == 45 && is_ascii_digit (slice_index bytes 1))

unfoldable pub number_len : Bytes → ℕ
number_len bytes = if slice_index bytes 0 == 45 then 1 + digits_len (drop 1 bytes) else digits_len bytes

-- the number lies within 64 bits
abbrev pub fits : ℤ → Bool
fits (pos n) = nat_lt n (2 ^ 63)
fits (negsuc n) = nat_lt n (2 ^ 63)

-- the number of so many bytes
abbrev pub number_found : ℕ → Bytes → ℕ → Lexed
number_found at bytes len =
    let value = signed_digits_value 10 (take len bytes) in
    if fits value then Ok (token.Number value, drop len bytes) else Err (refusal NumberRange at)

unfoldable pub number_at : ℕ → Bytes → Lexed
number_at at bytes = number_found at bytes (number_len bytes)

-- a text whose front has been read
abbrev pub with : Bytes → Option (Bytes × Bytes) → Option (Bytes × Bytes)
with front None = None
with front (Some x) = Some (front ++ x.0, x.1)

-- a text from behind its opening quote, and what is behind it
abbrev pub quoted_at : Bytes → Option (Bytes × Bytes)
quoted_at [] = None
quoted_at (b ∷ []) = if b == 39 then Some ([], []) else None
quoted_at (b ∷ c ∷ z) = if b == 39 then (if c == 39 then with (39 ∷ []) (quoted_at z) else Some ([], c ∷ z)) else with (b ∷ []) (quoted_at (c ∷ z))

abbrev pub text_found : ℕ → Option (Bytes × Bytes) → Lexed
text_found at None = Err (refusal OpenText at)
text_found at (Some x) = Ok (token.Text x.0, x.1)

unfoldable pub text_at : ℕ → Bytes → Lexed
text_at at bytes = text_found at (quoted_at (drop 1 bytes))

unfoldable pub symbol_of : ℕ → Option Symbol
symbol_of first =
    if first == 40 then Some s.OpenParenthesis else if first == 41 then Some s.CloseParenthesis else if first == 44 then Some s.Comma
    else if first == 46 then Some s.Dot else if first == 42 then Some s.Star else if first == 59 then Some s.Semicolon else None

-- the comparison that begins with these two characters, and how many of them it takes
unfoldable pub comparison_of : ℕ → ℕ → Option (Comparison × ℕ)
comparison_of first second =
    if first == 61 then Some (by.Equal, 1)
    else if first == 60 then (if second == 61 then Some (by.LessOrEqual, 2) else if second == 62 then Some (by.NotEqual, 2) else Some (by.Less, 1))
    else if first == 62 then (if second == 61 then Some (by.GreaterOrEqual, 2) else Some (by.Greater, 1))
    else if first == 33 && second == 61 then Some (by.NotEqual, 2) else None

abbrev pub sign_by : Option Symbol → Option (Comparison × ℕ) → Option (TokenKind × ℕ)
sign_by (Some symbol) found = Some (token.Symbol symbol, 1)
sign_by None None = None
sign_by None (Some x) = Some (token.Comparison x.0, x.1)

-- the symbol or comparison that begins with these two characters, and how many of them it takes
unfoldable pub sign_of : ℕ → ℕ → Option (TokenKind × ℕ)
sign_of first second = sign_by (symbol_of first) (comparison_of first second)

abbrev pub sign_found : ℕ → Bytes → Option (TokenKind × ℕ) → Lexed
sign_found at bytes None = Err (refusal NoToken at)
sign_found at bytes (Some x) = Ok (x.0, drop x.1 bytes)

unfoldable pub sign_at : ℕ → Bytes → Lexed
sign_at at bytes = sign_found at bytes (sign_of (slice_index bytes 0) (slice_index bytes 1))

-- the token at the front of the bytes, which begin at this place
unfoldable pub token_at : ℕ → Bytes → Lexed
token_at at bytes =
    if is_word_start (slice_index bytes 0) then Ok (word_at bytes)
    else if starts_number bytes then number_at at bytes
    else if slice_index bytes 0 == 39 then text_at at bytes
    else sign_at at bytes
