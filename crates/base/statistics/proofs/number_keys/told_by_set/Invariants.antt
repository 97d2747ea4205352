use Rattle.std.proofs.Common.{◌≡◌, ℕ, take, nat_eq}
use Rattle.std.specs.HashSet as hash
use Rattle.std.specs.Set.{is_member}
use Rattle.statistics.proofs.number_keys.told_by_set.Given as goal

-- the set has the numbers so far
abbrev pub invariant-loop-number : goal.invariant-loop-number
invariant-loop-number l = ((q : ℕ) → hash.contains nat_eq l.set q ≡ is_member nat_eq (take l.number-index l.numbers) q) × (hash.IsUnique nat_eq l.set)
