-- What is said in lines of its own.
use Rattle.std.specs.Prelude.{◌≡◌, ◌-◌, ℕ, List, length, slice_index_or}

-- the last line ends too: there is none, or the last byte is a line feed
unfoldable pub AreLines : List ℕ → Type 0
AreLines text = slice_index_or text (length text - 1) 10 ≡ 10
