-- Shares of at most all.
use Rattle.std.proofs.Common.{◌≡◌, ℕ, ◌+◌, ◌-◌, ◌*◌, ◌/◌, ◌≤◌, subst, arith}
use Rattle.std.proofs.Math.Nat.{mul-le-mul_left}

-- of two parts of a whole that is a and c
parts : (a c b : ℕ) → b ≤ a + c → (a + c) * a + (a + c) * b ≤ (a + c) * (a + c) + a * b
parts a c b le = omega (arith, mul-le-mul_left c le)

two-parts : (m a b : ℕ) → a ≤ m → b ≤ m → m * a + m * b ≤ m * m + a * b
two-parts m a b first second =
    let is : a + (m - a) ≡ m = omega (arith, first) in
    subst (λ n. n * a + n * b ≤ n * n + a * b) is (parts a (m - a) b (omega (arith, first, second)))

pub either_le : (a b : ℕ) → a ≤ 1000000 → b ≤ 1000000 → a + b - a * b / 1000000 ≤ 1000000
either_le a b first second = omega (arith, two-parts 1000000 a b first second)
