-- What a device's count of failed calls says.
use Rattle.std.specs.Prelude.{◌≡◌, ◌<◌, ◌+◌, ◌-◌, ◌^◌, ◌⊎◌, ℕ, min, Result, MatchResult}

-- one call more that failed, up to the largest count
abbrev pub one_more : ℕ → ℕ
one_more count = min (count + 1) (2 ^ 64 - 1)

-- the counts before and after a call: a value leaves it, and a failure counts one more
abbrev pub Counts : {T E : Type 0} → Result T E → ℕ → ℕ → Type 0
Counts result old new = MatchResult result (λ _. new ≡ old) (λ _. new ≡ one_more old)

-- a call failed between two counts, of which the largest stays
abbrev pub Rose : ℕ → ℕ → Type 0
Rose old new = (old < new) ⊎ (new ≡ 2 ^ 64 - 1)
