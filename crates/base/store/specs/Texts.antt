-- Texts that are kept as their bytes in a row, and the places where they end.
use Rattle.std.specs.Prelude.{◌≡◌, ◌<◌, ◌≤◌, ℕ, zero, suc, List, length, map, slice_index, slice_range}
use Rattle.std.specs.List.{range_with_len}
use Rattle.std.specs.Str.{IsCharBoundary}
use Rattle.store.specs.declared.ends.Places.{Places}
use Rattle.store.specs.declared.ends.Places.TheVariants as places

-- the places, however wide they are kept
abbrev pub places_of : Places → List ℕ
places_of (places.Short short) = short
places_of (places.Long long) = long

-- where the text with this number begins: where the one before it ends
abbrev pub start_of : List ℕ → ℕ → ℕ
start_of ends zero = 0
start_of ends (suc i) = slice_index ends i

abbrev pub text_at : List ℕ → List ℕ → ℕ → List ℕ
text_at bytes ends i = slice_range bytes (start_of ends i) (slice_index ends i)

abbrev pub texts_of : List ℕ → List ℕ → List (List ℕ)
texts_of bytes ends = map (text_at bytes ends) (range_with_len 0 (length ends))

-- the places rise to the end of the bytes, and a character ends at each
pub record AreEnds (bytes ends : List ℕ) : Type 0 where
  pub last : start_of ends (length ends) ≡ length bytes
  pub rising : (i : ℕ) → i < length ends → start_of ends i ≤ slice_index ends i
  pub cut : (i : ℕ) → i < length ends → IsCharBoundary bytes (slice_index ends i)
