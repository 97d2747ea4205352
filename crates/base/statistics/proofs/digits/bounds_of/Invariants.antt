use Rattle.std.proofs.Common.{◌≡◌, ◌<◌, ℕ, true, false, pos, slice_index_or}
use Rattle.std.specs.Prelude.{◌≤ℤ◌}
use Rattle.statistics.proofs.digits.bounds_of.Given as goal

-- the numbers so far lie within the bounds
abbrev pub invariant-loop-row : goal.invariant-loop-row
invariant-loop-row l = (i : ℕ) → i < l.row → slice_index_or l.column.known.now i false ≡ true
    → (l.least ≤ℤ slice_index_or l.column.numbers.now i (pos 0)) × (slice_index_or l.column.numbers.now i (pos 0) ≤ℤ l.greatest)
