-- The numbers of estimates: whole, and up to the greatest of 64 bits. Shares are counted in millionths.
use Rattle.std.specs.Prelude.{ℕ, ◌-◌, ◌*◌, ◌^◌, min}
use Rattle.std.specs.Int.{w64, div_ceil, leading_zeros}

-- the lesser of the number and the greatest of 64 bits
unfoldable pub cut : ℕ → ℕ
cut n = min n (2 ^ 64 - 1)

-- so many millionths of a number, rounded up
unfoldable pub per_million : ℕ → ℕ → ℕ
per_million n share = div_ceil (n * share) 1000000

-- how many binary digits a number of 64 bits has; 0 has none
unfoldable pub binary_digits : ℕ → ℕ
binary_digits n = 64 - leading_zeros w64 n
