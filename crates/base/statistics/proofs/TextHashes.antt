-- Bytes behind a hash, four at a time and one by one.
use Rattle.std.proofs.Common.{◌≡◌, refl, ap, sym, ◌∙◌, ℕ, ◌<◌, ◌≤◌, ◌-◌, List, [], ◌∷◌, length, take, drop, get_or, arith}
use Rattle.std.specs.Int.{from_le_bytes, w32}
use Rattle.std.specs.List.{fold}
use Rattle.statistics.specs.ColumnKeys.{bytes_hash, hash_behind}

all-of : (xs : List ℕ) → take (length xs) xs ≡ xs
all-of [] = refl
all-of (x ∷ xs) = ap (λ l. x ∷ l) (all-of xs)

-- the first four, and what is left
pub four-bytes : (h four : ℕ) (bytes : List ℕ) → 4 ≤ length bytes → four ≡ from_le_bytes w32 (get_or bytes 0 0 ∷ get_or bytes 1 0 ∷ get_or bytes 2 0 ∷ get_or bytes 3 0 ∷ [])
    → bytes_hash (hash_behind h four) (take (length bytes - 4) (drop 4 bytes)) ≡ bytes_hash h bytes
four-bytes h four [] low is = absurd (omega (arith, low))
four-bytes h four (a ∷ []) low is = absurd (omega (arith, low))
four-bytes h four (a ∷ b ∷ []) low is = absurd (omega (arith, low))
four-bytes h four (a ∷ b ∷ c ∷ []) low is = absurd (omega (arith, low))
four-bytes h four (a ∷ b ∷ c ∷ d ∷ more) low is =
    let left : length (a ∷ b ∷ c ∷ d ∷ more) - 4 ≡ length more = omega arith in
    ap (λ n. bytes_hash (hash_behind h n) (take (length (a ∷ b ∷ c ∷ d ∷ more) - 4) more)) is
    ∙ ap (bytes_hash (hash_behind h (from_le_bytes w32 (a ∷ b ∷ c ∷ d ∷ [])))) (ap (λ n. take n more) left ∙ all-of more)

-- up to three are taken one by one
pub few-bytes : (h : ℕ) (bytes : List ℕ) → length bytes < 4 → bytes_hash h bytes ≡ fold hash_behind h bytes
few-bytes h [] few = refl
few-bytes h (a ∷ []) few = refl
few-bytes h (a ∷ b ∷ []) few = refl
few-bytes h (a ∷ b ∷ c ∷ []) few = refl
few-bytes h (a ∷ b ∷ c ∷ d ∷ more) few = absurd (omega (arith, few))
