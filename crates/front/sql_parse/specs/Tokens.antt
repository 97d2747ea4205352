-- The tokens of a text (this project's profile of SQL).
use Rattle.std.specs.Prelude.{◌≡◌, ℕ, ◌+◌, ◌≤◌, ◌==◌, ◌||◌, Bool, true, false, if◌then◌else◌, List, [], ◌∷◌, ◌++◌, length, map, codes, FitsSigned, Option, Some, None, ◌⊎◌}
use Rattle.std.specs.Char.{is_ascii_alphabetic, is_ascii_digit, to_ascii_lowercase}
use Rattle.std.specs.Int.{w64}
use Rattle.std.specs.List.{AllByRecursion}
use Rattle.std.specs.Str.{bytes_eq}
use Rattle.std.specs.Str.Parse.{signed_digits_value}
use Rattle.values.specs.declared.truth.Comparison.TheVariants as by
use Rattle.values.specs.Words.{reserved_words}
use Rattle.sql_parse.specs.declared.fault.ParseReason.{ParseReason}
use Rattle.sql_parse.specs.declared.fault.ParseReason.TheVariants.{NoToken, OpenText, NumberRange}
use Rattle.sql_parse.specs.declared.fault.ParseRefusal.{ParseRefusal}
use Rattle.sql_parse.specs.declared.token.Keyword.{Keyword}
use Rattle.sql_parse.specs.declared.token.Keyword.TheVariants as k
use Rattle.sql_parse.specs.declared.token.Symbol.{Symbol}
use Rattle.sql_parse.specs.declared.token.Symbol.TheVariants as s
use Rattle.sql_parse.specs.declared.token.TokenKind.{TokenKind}
use Rattle.sql_parse.specs.declared.token.TokenKind.TheVariants as token
use Rattle.sql_parse.specs.declared.token.Token.{Token}

abbrev pub Bytes : Type 0
Bytes = List ℕ

-- ---- characters

-- space, tab, CR or LF
abbrev pub is_space : ℕ → Bool
is_space c = c == 32 || c == 9 || c == 13 || c == 10

-- an ASCII letter or `_`
abbrev pub is_word_start : ℕ → Bool
is_word_start c = is_ascii_alphabetic c || c == 95

abbrev pub is_word_character : ℕ → Bool
is_word_character c = is_word_start c || is_ascii_digit c

-- each byte passes the test
abbrev pub Are : (ℕ → Bool) → Bytes → Type 0
Are test bytes = AllByRecursion (λ c. test c ≡ true) bytes

-- ---- spellings

-- a letter or `_`, and then letters, digits and `_`
abbrev pub IsWord : Bytes → Type 0
IsWord [] = ⊥
IsWord (c ∷ w) = (is_word_start c ≡ true) × Are is_word_character w

-- at least one digit
abbrev pub IsDigits : Bytes → Type 0
IsDigits [] = ⊥
IsDigits (c ∷ w) = Are is_ascii_digit (c ∷ w)

-- digits, or `-` directly before digits
abbrev pub IsNumber : Bytes → Type 0
IsNumber [] = ⊥
IsNumber (c ∷ w) = IsDigits (c ∷ w) ⊎ ((c ≡ 45) × IsDigits w)

-- a text with each quote doubled
abbrev pub doubled : Bytes → Bytes
doubled [] = []
doubled (c ∷ t) = (if c == 39 then 39 ∷ 39 ∷ [] else c ∷ []) ++ doubled t

-- a text behind its opening quote
abbrev pub opened : Bytes → Bytes
opened t = 39 ∷ doubled t

-- a text between its quotes
abbrev pub quoted : Bytes → Bytes
quoted t = opened t ++ 39 ∷ []

abbrev pub symbol_text : Symbol → Bytes
symbol_text s.OpenParenthesis = codes "("
symbol_text s.CloseParenthesis = codes ")"
symbol_text s.Comma = codes ","
symbol_text s.Dot = codes "."
symbol_text s.Star = codes "*"
symbol_text s.Semicolon = codes ";"

-- the keywords, as their words stand in the list of reserved words
abbrev pub keywords : List Keyword
keywords =
    k.And ∷ k.As ∷ k.Asc ∷ k.By ∷ k.Count ∷ k.Cross ∷ k.Desc ∷ k.Distinct ∷ k.Exists ∷ k.From ∷ k.Full ∷ k.Group ∷ k.Having ∷
    k.In ∷ k.Inner ∷ k.Is ∷ k.Join ∷ k.Left ∷ k.Max ∷ k.Min ∷ k.Natural ∷ k.Not ∷ k.Null ∷ k.On ∷ k.Or ∷ k.Order ∷ k.Outer ∷
    k.Right ∷ k.Select ∷ k.Sum ∷ k.Where ∷ []

-- words, each with the keyword that it is
abbrev pub beside : List Bytes → List Keyword → List (Bytes × Keyword)
beside [] keywords = []
beside (word ∷ words) [] = []
beside (word ∷ words) (keyword ∷ keywords) = (word, keyword) ∷ beside words keywords

abbrev pub reserved : List (Bytes × Keyword)
reserved = beside reserved_words keywords

-- what stands beside the word in the list
abbrev pub listed : List (Bytes × Keyword) → Bytes → Option Keyword
listed [] word = None
listed (x ∷ xs) word = if bytes_eq word x.0 then Some x.1 else listed xs word

-- the reserved word that a word in lower case is
unfoldable pub keyword_of : Bytes → Option Keyword
keyword_of word = listed reserved word

-- These bytes spell this token. Words are read without regard to case; `!=` is another spelling of `<>`.
abbrev pub Spells : Bytes → TokenKind → Type 0
Spells w (token.Keyword keyword) = IsWord w × (keyword_of (map to_ascii_lowercase w) ≡ Some keyword)
Spells w (token.Name name) = IsWord w × (map to_ascii_lowercase w ≡ name) × (keyword_of name ≡ None)
Spells w (token.Number n) = IsNumber w × (signed_digits_value 10 w ≡ n) × FitsSigned w64 n
Spells w (token.Text t) = w ≡ quoted t
Spells w (token.Symbol symbol) = w ≡ symbol_text symbol
Spells w (token.Comparison by.Equal) = w ≡ codes "="
Spells w (token.Comparison by.NotEqual) = (w ≡ codes "<>") ⊎ (w ≡ codes "!=")
Spells w (token.Comparison by.Less) = w ≡ codes "<"
Spells w (token.Comparison by.LessOrEqual) = w ≡ codes "<="
Spells w (token.Comparison by.Greater) = w ≡ codes ">"
Spells w (token.Comparison by.GreaterOrEqual) = w ≡ codes ">="

-- The bytes aren't taken apart: a token, or what is none for its range or for want of a closing quote.
abbrev pub IsWhole : Bytes → Type 0
IsWhole w = ((kind : TokenKind) × Spells w kind) ⊎ IsNumber w ⊎ ((t : Bytes) × (w ≡ opened t))

-- no longer beginning of what stands there is whole
abbrev pub IsLongest : Bytes → Bytes → Type 0
IsLongest w rest = (v more : Bytes) → v ++ more ≡ w ++ rest → IsWhole v → length v ≤ length w

-- ---- a text

-- The bytes, which begin at this place, are these tokens with white space between them and behind, and then the rest, which begins at `at`.
abbrev pub Begins : ℕ → Bytes → List Token → ℕ → Bytes → Type 0
Begins place bytes [] at rest = (spaces : Bytes) × (bytes ≡ spaces ++ rest) × Are is_space spaces × (at ≡ place + length spaces)
Begins place bytes (t ∷ ts) at rest = (spaces w behind : Bytes) × (bytes ≡ spaces ++ (w ++ behind)) × Are is_space spaces
    × (t.at ≡ place + length spaces) × Spells w t.kind × IsLongest w behind × Begins (t.at + length w) behind ts at rest

-- the bytes are these tokens, all of them
abbrev pub AreTokens : Bytes → List Token → Type 0
AreTokens bytes tokens = Begins 0 bytes tokens (length bytes) []

-- No token begins there. P01: nothing whole does. P02: an open text does. P03: a number past 64 bits does.
abbrev pub IsNoToken : ParseReason → Bytes → Type 0
IsNoToken NoToken [] = ⊥
IsNoToken NoToken (c ∷ z) = (is_space c ≡ false) × ((v more : Bytes) → v ++ more ≡ c ∷ z → IsWhole v → ⊥)
IsNoToken OpenText bytes = (t : Bytes) × (bytes ≡ opened t)
IsNoToken NumberRange bytes = (w behind : Bytes) × (bytes ≡ w ++ behind) × IsNumber w × IsLongest w behind × (FitsSigned w64 (signed_digits_value 10 w) → ⊥)
IsNoToken _ bytes = ⊥

-- at this place the bytes are no tokens, but all before it are
pub record IsLexicalFault (bytes : Bytes) (r : ParseRefusal) : Type 0 where
  pub tokens : List Token
  pub rest : Bytes
  pub begins : Begins 0 bytes tokens r.at rest
  pub none : IsNoToken r.reason rest
