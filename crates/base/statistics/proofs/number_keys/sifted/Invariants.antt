use Rattle.std.proofs.Common.{◌≡◌, ◌*◌, ◌∷◌, length, take, get_or}
use Rattle.statistics.specs.NumberKeys.{HasSeen}
use Rattle.statistics.proofs.number_keys.sifted.Given as goal

-- the first number counts as seen before all
abbrev pub invariant-loop-number : goal.invariant-loop-number
invariant-loop-number l = record {
  slots : length l.sift.kept ≡ 2 * length l.numbers;
  first : l.sift.first ≡ get_or l.numbers 0 0;
  seen : HasSeen l.sift (l.sift.first ∷ take l.number-index l.numbers);
}
