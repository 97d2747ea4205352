-- Sets of keys, which are seen in rising order: that of words in a dictionary whose letters are column numbers.
use Rattle.std.specs.Prelude.{ℕ, ◌≤◌, Bool, List, [], ◌∷◌, map, Option, Some, None, Box, Vec}
use Rattle.std.specs.List.{list_any}
use Rattle.std.specs.Ordering.{nat_cmp}
use Rattle.std.specs.Cmp.Lexicographic.{slice_cmp}
use Rattle.std.specs.BTreeSet.{insert_key}
use Rattle.std.specs.Option.{option_map_or}
use Rattle.indexmap.specs.IndexSet.{IndexSet, index_set_len, spare}
use Rattle.algebra.specs.Equality.{same_columns}

-- the columns of a key, strictly rising
abbrev pub Key : Type 0
Key = List ℕ

abbrev pub has_key : List Key → Key → Bool
has_key keys k = list_any (λ l. same_columns l k) keys

-- the keys with one more, unless it is there
abbrev pub with_key : List Key → Key → List Key
with_key = insert_key (slice_cmp nat_cmp)

-- the keys of two sets
abbrev pub with_keys : List Key → List Key → List Key
with_keys keys [] = keys
with_keys keys (l ∷ others) = with_keys (with_key keys l) others

-- keys in rising order, each once
abbrev pub in_order : List Key → List Key
in_order = with_keys []

-- ---- tables of keys

module _ {A B C : Type 0} where
  -- the keys of a table as they came; none where there is no table
  abbrev pub came : Option (Box (IndexSet (Vec ℕ A) B) C) → List Key
  came table = option_map_or (λ keys. map (λ key. key.items) keys.value.keys) table []

  -- the table has room for the keys of another
  abbrev pub HasRoomFor : Option (Box (IndexSet (Vec ℕ A) B) C) → Option (Box (IndexSet (Vec ℕ A) B) C) → Type 0
  HasRoomFor (Some keys) (Some more) = index_set_len more.value ≤ spare keys.value
  HasRoomFor (Some keys) None = Unit {0}
  HasRoomFor None more = Unit {0}
