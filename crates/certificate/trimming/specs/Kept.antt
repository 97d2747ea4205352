-- Lines of a log that are kept.
use Rattle.std.specs.Prelude.{◌≡◌, ℕ, ◌<◌, ◌+◌, List, length, slice_index_or}

-- the new number of a line; 0 where there is no line
abbrev pub number_in : List ℕ → ℕ → ℕ
number_in numbers line = slice_index_or numbers line 0

-- some of so many lines, in rising order, each of which has its place among them as its new number
pub record IsKept (count : ℕ) (kept : List ℕ) (number : ℕ → ℕ) : Type 0 where
  pub within : (i : ℕ) → i < length kept → slice_index_or kept i 0 < count
  pub rising : (i : ℕ) → i + 1 < length kept → slice_index_or kept i 0 < slice_index_or kept (i + 1) 0
  pub numbered : (i : ℕ) → i < length kept → number (slice_index_or kept i 0) ≡ i
