-- How the program spells a path: on one line, and without a character that steers a terminal.
use Rattle.std.specs.Prelude.{ℕ, ◌/◌, ◌%◌, ◌-◌, take, decimal, Bool, false, List, [], ◌∷◌, ◌++◌, ◌==◌, ◌&&◌, if◌then◌else◌, not, length, slice_index_or, codes}
use Rattle.std.specs.Int.{is_in_range}
pub use Rattle.std.specs.List.{flat_map}
use Rattle.std.specs.List.{list_any}
use Rattle.std.specs.Str.{chars}
use Rattle.std.specs.Char.{is_control, encode_utf8}
use Rattle.std.specs.Fmt.{digit_glyph}

-- ---- what is said as it is

-- a line break or another character that steers a terminal: U+0000 to U+001F and U+007F to U+009F
abbrev pub has_control : List ℕ → Bool
has_control path = list_any is_control (chars path)

-- what isn't empty, doesn't begin with a quote and has no such character
abbrev pub is_plain : List ℕ → Bool
is_plain path = not (length path == 0) && (not (slice_index_or path 0 0 == 34) && not (has_control path))

-- ---- what stands between quotes

-- any byte, by two digits of hexadecimal in lower case
abbrev pub hex_text : ℕ → List ℕ
hex_text byte = codes "\\x" ++ (digit_glyph false (byte / 16) ∷ digit_glyph false (byte % 16) ∷ [])

-- a line feed, a carriage return, a tab, a quote, a backslash, other visible ASCII and the space, and any other byte
abbrev pub spelled_byte : ℕ → List ℕ
spelled_byte byte =
    if byte == 10 then codes "\\n"
    else if byte == 13 then codes "\\r"
    else if byte == 9 then codes "\\t"
    else if byte == 34 then codes "\\\""
    else if byte == 92 then codes "\\\\"
    else if is_in_range 32 126 byte then byte ∷ []
    else hex_text byte

abbrev pub quoted : List ℕ → List ℕ
quoted bytes = codes "\"" ++ (flat_map spelled_byte bytes ++ codes "\"")

-- how many more bytes there are, if any
unfoldable pub more_text : ℕ → List ℕ
more_text more = if more == 0 then [] else codes " and " ++ (decimal more ++ codes " more bytes")

-- the first 60 bytes, and how many more there are
abbrev pub quoted_front : List ℕ → List ℕ
quoted_front bytes = quoted (take 60 bytes) ++ more_text (length bytes - 60)

-- ---- the whole

unfoldable pub spelled : List ℕ → List ℕ
spelled path = if is_plain path then path else quoted path

-- ---- a text of several lines

-- a character that steers a terminal, but for a line feed, is said by its bytes as between quotes, any other as it is
abbrev pub readable_character : ℕ → List ℕ
readable_character character = if is_control character && not (character == 10) then flat_map spelled_byte (encode_utf8 character) else encode_utf8 character

abbrev pub readable : List ℕ → List ℕ
readable text = flat_map readable_character (chars text)
