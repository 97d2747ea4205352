-- Lines and columns of a text.
use Rattle.std.specs.Prelude.{◌≡◌, ◌≢◌, ◌≤◌, ◌-◌, ◌==◌, ◌⊎◌, ℕ, Bool, List, length, drop, slice_index_or, not}
use Rattle.std.specs.Int.{is_in_range}
use Rattle.std.specs.List.{All}

abbrev pub is_break : ℕ → Bool
is_break byte = byte == 10

-- a byte at which a character begins: any but 0x80 to 0xBF
abbrev pub is_front : ℕ → Bool
is_front byte = not (is_in_range 128 191 byte)

-- the last line begins there: behind a line break or at the front, with no line break from there on
unfoldable pub IsLineStart : List ℕ → ℕ → Type 0
IsLineStart text start = (start ≤ length text) × ((start ≡ 0) ⊎ (slice_index_or text (start - 1) 0 ≡ 10)) × All (λ byte. byte ≢ 10) (drop start text)
