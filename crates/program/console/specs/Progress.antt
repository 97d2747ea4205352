-- When a line says how far the work is.
use Rattle.std.specs.Prelude.{◌≤◌, ◌-◌, ◌⊎◌, ℕ, Bool, Option, None, Some, IsTrue}

-- two seconds have passed since the last line, by milliseconds; or there was none, and they have passed since the start, or none needs to
abbrev pub IsDue : ℕ → Option ℕ → Bool → Type 0
IsDue now None at_once = IsTrue at_once ⊎ (2000 ≤ now)
IsDue now (Some last) at_once = 2000 ≤ now - last
