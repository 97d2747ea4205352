-- The numbers of an index over one column, and slots that tell them apart.
use Rattle.std.specs.Prelude.{◌≡◌, ◌≢◌, ◌≤◌, ◌⊎◌, ℕ, ◌+◌, ◌%◌, ◌^◌, pos, true, false, List, [], ◌∷◌, length, flat_map, nat_eq, slice_index_or, if◌then◌else◌}
use Rattle.std.specs.Int.{cast_unsigned, w64}
use Rattle.std.specs.List.{range_with_len}
use Rattle.std.specs.Set.{is_member, distinct_count}
use Rattle.store.specs.declared.numbers.Numbers.{Numbers}
use Rattle.statistics.specs.declared.number_keys.Sift.{Sift}
use Rattle.statistics.specs.ColumnKeys.{slot_at}

-- the number of a row as 64 bits, if it has one
abbrev pub number_in : Numbers → ℕ → List ℕ
number_in c row = if slice_index_or c.known.now row false then cast_unsigned w64 (slice_index_or c.numbers.now row (pos 0)) ∷ [] else []

-- those of the first rows
abbrev pub known_numbers : Numbers → ℕ → List ℕ
known_numbers c rows = flat_map (number_in c) (range_with_len 0 rows)

-- the slot of a number, among so many; a sift's salt makes its slots others than those of the one before
abbrev pub slot_in_sift : ℕ → ℕ → ℕ → ℕ
slot_in_sift slots salt number = slot_at slots ((number + salt) % 2 ^ 64)

-- a number is the first one, or stands in its slot, or is among the others, whose slots another one has
abbrev pub IsFound : (ℕ → ℕ) → ℕ → List ℕ → List ℕ → ℕ → Type 0
IsFound slot first kept others q = (q ≡ first) ⊎ (slice_index_or kept (slot q) first ≡ q) ⊎ ((is_member nat_eq others q ≡ true) × (slice_index_or kept (slot q) first ≢ first))

-- so many numbers, the first one among them, are told apart by their slots, and none is one of the others
pub record AreSifted (slot : ℕ → ℕ) (first : ℕ) (seen kept : List ℕ) (told : ℕ) (others : List ℕ) : Type 0 where
  pub count : distinct_count nat_eq seen ≡ told + distinct_count nat_eq others
  pub some : 1 ≤ told
  pub most : told + length others ≤ length seen
  pub kept_are_seen : (s : ℕ) → is_member nat_eq seen (slice_index_or kept s first) ≡ true
  pub others_are_seen : (q : ℕ) → is_member nat_eq others q ≡ true → is_member nat_eq seen q ≡ true
  pub found : (q : ℕ) → is_member nat_eq seen q ≡ true → IsFound slot first kept others q

-- as code keeps them
abbrev pub HasSeen : Sift → List ℕ → Type 0
HasSeen s seen = AreSifted (slot_in_sift (length s.kept) s.salt) s.first seen s.kept s.told s.others.items
