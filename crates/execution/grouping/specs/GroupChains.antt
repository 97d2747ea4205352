-- Groups in buckets: a bucket leads to its last group, and a group to the one before it in its bucket (hashing by chaining, as in any textbook).
use Rattle.std.specs.Prelude.{◌≡◌, ◌+◌, ◌<◌, ◌≤◌, ℕ, List, length, slice_index}

-- the last number below the end at which f is b, plus one; zero where there is none
pub record IsLast (f : ℕ → ℕ) (b end last : ℕ) : Type 0 where
  pub within : last ≤ end
  pub there : (g : ℕ) → last ≡ g + 1 → f g ≡ b
  pub apart : (j : ℕ) → last ≤ j → j < end → f j ≡ b → ⊥

-- the groups are in the buckets that f says
pub record AreChained (f : ℕ → ℕ) (lasts befores : List ℕ) : Type 0 where
  pub last : (b : ℕ) → b < length lasts → IsLast f b (length befores) (slice_index lasts b)
  pub before : (g : ℕ) → g < length befores → IsLast f (f g) g (slice_index befores g)
