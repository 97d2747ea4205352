use Rattle.std.proofs.Common.{◌≡◌, length}
use Rattle.labels.specs.Offers.{are_different}
use Rattle.labels.proofs.offers.are_different.Given as goal

-- the keys so far are of other columns than all behind them
abbrev pub invariant-keys : goal.invariant-keys
invariant-keys l = are_different l.rest ≡ are_different l.fn.order

abbrev pub decreases-keys : goal.decreases-keys
decreases-keys l = length l.rest
