-- Rows in buckets: a bucket leads to its newest row, and a row to the one before it in its bucket (hashing by chaining, as in any textbook).
use Rattle.std.specs.Prelude.{◌≡◌, ◌<◌, ◌≤◌, ◌-◌, ◌*◌, ◌/◌, ◌^◌, ℕ, List, [], length, slice_index, slice_index_or, if◌then◌else◌}
use Rattle.std.specs.List.{fold, list_any}
use Rattle.std.specs.Hash.FoldHasher as folding
use Rattle.values.specs.Truth.{is_null}
use Rattle.schema.specs.Databases.{Row, values_at}
use Rattle.store.specs.Keys.{key_writes}
use Rattle.store.specs.declared.chains.Chains.{Chains}

-- one more than the greatest number below n at which f is b; 0 where there is none
pub record IsNewest (f : ℕ → ℕ) (b n newest : ℕ) : Type 0 where
  pub within : newest ≤ n
  pub there : 0 < newest → f (newest - 1) ≡ b
  pub apart : (j : ℕ) → newest ≤ j → j < n → f j ≡ b → ⊥

-- the first n rows are in the buckets that f says; a row is in none where that is past the last bucket
pub record AreChained (f : ℕ → ℕ) (n : ℕ) (c : Chains) : Type 0 where
  pub count : length c.olders ≡ n
  pub newest : (b : ℕ) → b < length c.heads → IsNewest f b n (slice_index c.heads b)
  pub older : (j : ℕ) → j < n → f j < length c.heads → IsNewest f (f j) j (slice_index c.olders j)

-- what a key hashes to, and the bucket of that, of so many
abbrev pub hash_of : Row → ℕ
hash_of key = folding.finish (fold folding.write folding.initial (key_writes key))

abbrev pub bucket_of : ℕ → Row → ℕ
bucket_of buckets key = hash_of key / 2 ^ 32 * buckets / 2 ^ 32

-- the bucket of a row by its key at the places; past the last where that has a Null
abbrev pub bucket_at : List Row → List ℕ → ℕ → ℕ → ℕ
bucket_at rows places buckets j =
    let key = values_at places (slice_index_or rows j []) in
    if list_any is_null key then buckets else bucket_of buckets key

-- of the first n rows none in the bucket has the key
abbrev pub IsNowhere : List Row → List ℕ → ℕ → ℕ → ℕ → Row → Type 0
IsNowhere rows places buckets n bucket key = (j : ℕ) → j < n → bucket_at rows places buckets j ≡ bucket → values_at places (slice_index_or rows j []) ≡ key → ⊥
