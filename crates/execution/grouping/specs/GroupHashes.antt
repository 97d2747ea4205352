-- Groups in the buckets of their hashes.
use Rattle.std.specs.Prelude.{◌≡◌, ◌<◌, ◌*◌, ◌/◌, ◌^◌, ℕ, List, length, slice_index_or}
use Rattle.grouping.specs.declared.chains.GroupChains.{GroupChains}
use Rattle.grouping.specs.GroupChains.{AreChained}
use Rattle.grouping.specs.RowNumbers.{numbers_in}

-- the bucket, of so many, of a hash of 32 bits: in proportion
abbrev pub bucket_of : ℕ → ℕ → ℕ
bucket_of buckets hash = hash * buckets / 2 ^ 32

-- the hash of the group with a number
abbrev pub hash_at : List ℕ → ℕ → ℕ
hash_at hashes group = slice_index_or hashes group 0

-- groups with these hashes are in their buckets
pub record HasChains (hashes : List ℕ) (chains : GroupChains) : Type 0 where
  pub some : 0 < length (numbers_in chains.lasts)
  pub few : length (numbers_in chains.lasts) < 2 ^ 32
  pub many : length (numbers_in chains.befores) ≡ length hashes
  pub chained : AreChained (λ g. bucket_of (length (numbers_in chains.lasts)) (hash_at hashes g)) (numbers_in chains.lasts) (numbers_in chains.befores)
