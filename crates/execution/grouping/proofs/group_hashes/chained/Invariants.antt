use Rattle.std.proofs.Common.{◌≡◌, length, take}
use Rattle.grouping.specs.GroupHashes.{HasChains}
use Rattle.grouping.specs.RowNumbers.{numbers_in}
use Rattle.grouping.proofs.group_hashes.chained.Given as goal

abbrev pub invariant-loop-hash : goal.invariant-loop-hash
invariant-loop-hash l = record {
  has : HasChains (take l.hash-index l.hashes) l.chains;
  wide : length (numbers_in l.chains.lasts) ≡ l.buckets;
}
