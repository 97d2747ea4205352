use Rattle.std.proofs.Common.{◌≤◌, ℕ, length}
use Rattle.grouping.specs.GroupChains.{IsLast}
use Rattle.grouping.specs.GroupHashes.{bucket_of, hash_at}
use Rattle.grouping.specs.RowNumbers.{numbers_in}
use Rattle.grouping.proofs.GroupHashes.{IsSearched}
use Rattle.grouping.proofs.group_hashes.GroupHashes.seek.Given as goal

abbrev pub invariant-loop-from : goal.invariant-loop-from
invariant-loop-from l = record {
  below : l.from ≤ length l.self.hashes.items;
  searched : (end : ℕ) → IsLast (λ g. bucket_of (length (numbers_in l.self.chains.lasts)) (hash_at l.self.hashes.items g)) (bucket_of (length (numbers_in l.self.chains.lasts)) l.hash) end l.fn.from
      → IsSearched (bucket_of (length (numbers_in l.self.chains.lasts))) (hash_at l.self.hashes.items) l.hash end l.from;
}

abbrev pub decreases-loop-from : goal.decreases-loop-from
decreases-loop-from l = l.from
