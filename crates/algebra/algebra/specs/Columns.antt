-- Sets of columns.
use Rattle.std.specs.Prelude.{ℕ, Bool, not, ◌&&◌, ◌==◌, nat_lt, if◌then◌else◌, List, [], ◌∷◌, slice_index_or}
use Rattle.std.specs.List.{list_any, list_all}

-- a set of columns, as a test
abbrev pub ColumnSet : Type 0
ColumnSet = ℕ → Bool

-- the columns of a list
abbrev pub has : List ℕ → ColumnSet
has columns c = list_any (λ k. k == c) columns

-- each column of the first list is in the second
abbrev pub is_subset : List ℕ → List ℕ → Bool
is_subset columns others = list_all (λ k. has others k) columns

-- both lists have the same columns
abbrev pub is_same_set : List ℕ → List ℕ → Bool
is_same_set columns others = is_subset columns others && is_subset others columns

-- no column of the first list is in the second
abbrev pub are_disjoint : List ℕ → List ℕ → Bool
are_disjoint columns others = list_all (λ k. not (has others k)) columns

-- a column put at its place in a strictly rising list, unless it is there
abbrev pub insert : ℕ → List ℕ → List ℕ
insert c [] = c ∷ []
insert c (k ∷ ks) = if nat_lt c k then c ∷ k ∷ ks else if c == k then k ∷ ks else k ∷ insert c ks

-- the columns of a list as a strictly rising list
abbrev pub rising : List ℕ → List ℕ
rising [] = []
rising (c ∷ cs) = insert c (rising cs)

-- the columns of a class, in a list by the classes' numbers
abbrev pub columns_at : List (List ℕ) → ℕ → List ℕ
columns_at columns g = slice_index_or columns g []
