-- Groups of rows, as they are first seen.
use Rattle.std.specs.Prelude.{◌≡◌, ℕ, zero, suc, ◌+◌, ◌<◌, ◌≤◌, Bool, true, false, not, List, [], ◌∷◌, ◌++◌, length, map, filter, slice_index_or, Some}
use Rattle.std.specs.List.{range_with_len}
use Rattle.values.specs.declared.value.Value.{Value}
use Rattle.schema.specs.Databases.{Row}
use Rattle.store.specs.Keys.{key_eq}
use Rattle.query.specs.declared.query.Aggregate.{Aggregate}
use Rattle.query.specs.declared.aggregates.Running.{Running}
use Rattle.query.specs.Aggregates.{aggregate_of}
use Rattle.query.specs.Running.{IsAfter}
use Rattle.algebra.specs.Columns.{has}
use Rattle.algebra.specs.Bags.{Env, lay}
use Rattle.algebra.specs.Expressions.{with_aggregates}
use Rattle.relations.specs.declared.headings.Place.{Place}
use Rattle.relations.specs.declared.rows.Rows.{Rows}
use Rattle.relations.specs.declared.relation.Relation.{Relation}
use Rattle.grouping.specs.declared.groups.Grouping.{Grouping}
use Rattle.relations.specs.Parts.{row_at, value_in}
use Rattle.relations.specs.Relations.{column_places, numbered_env, numbers_of}

-- rows, and the first of those that are the same
pub record GroupOf (X : Type 0) : Type 0 where
  pub first : X
  pub rows : List X

module _ {X : Type 0} (same : X → X → Bool) where
  -- of rows that are the same the first
  abbrev pub first_seen : List X → List X
  first_seen [] = []
  first_seen (r ∷ rows) = r ∷ filter (λ s. not (same r s)) (first_seen rows)

  abbrev pub groups_by : List X → List (GroupOf X)
  groups_by rows = map (λ r. record { first = r; rows = filter (same r) rows }) (first_seen rows)

-- a row comes last in the group with this number, or founds one
abbrev pub added_at : {X : Type 0} → ℕ → X → List (GroupOf X) → List (GroupOf X)
added_at n r [] = record { first = r; rows = r ∷ [] } ∷ []
added_at zero r (g ∷ groups) = record { first = g.first; rows = g.rows ++ r ∷ [] } ∷ groups
added_at (suc n) r (g ∷ groups) = g ∷ added_at n r groups

-- the first rows, one more among them where there is no group of this number
abbrev pub with_founder : {X : Type 0} → List X → ℕ → X → List X
with_founder [] group r = r ∷ []
with_founder (f ∷ firsts) zero r = f ∷ firsts
with_founder (f ∷ firsts) (suc group) r = f ∷ with_founder firsts group r

-- ---- rows by their numbers

-- the values at the places
abbrev pub key_at : List Place → List Row → Row
key_at places row = map (λ place. value_in (Some place) row) places

-- the rows have the same values at the places
abbrev pub same_at : List Place → Rows → ℕ → ℕ → Bool
same_at places rows m n = key_eq (key_at places (row_at rows.parts.items m)) (key_at places (row_at rows.parts.items n))

-- whether a row is the same as the one before it
abbrev pub continues : (ℕ → ℕ → Bool) → ℕ → Bool
continues same zero = false
continues same (suc n) = same (suc n) n

-- of so many rows those that are the same stand together
abbrev pub StandTogether : (ℕ → ℕ → Bool) → ℕ → Type 0
StandTogether same count = (i j k : ℕ) → i ≤ j → j ≤ k → k < count → same i k ≡ true → same i j ≡ true

-- each row comes to the group of its number
abbrev pub AreNumbered : (ℕ → ℕ → Bool) → List ℕ → Type 0
AreNumbered same numbers = (n : ℕ) → n < length numbers → groups_by same (range_with_len 0 (n + 1)) ≡ added_at (slice_index_or numbers n 0) n (groups_by same (range_with_len 0 n))

-- ---- groups of a relation

-- its rows that are the same in some columns stand together
abbrev pub AreTogether : List ℕ → Relation → Type 0
AreTogether K r = StandTogether (same_at (column_places r.heading K) r.rows) r.rows.count

-- the groups of a relation's rows by their values at some places
abbrev pub placed_groups : List Place → Relation → List (GroupOf ℕ)
placed_groups places input = groups_by (same_at places input.rows) (numbers_of input)

-- the row of a group of these rows, the first given as an environment
abbrev pub group_env : Grouping → List Env → Env → Env → Env
group_env g members first e = with_aggregates g.added.now members (lay (has g.keys.now) first e)

-- the rows of groups, where rows are given by their numbers
abbrev pub row_group_envs : Grouping → (ℕ → Env) → Env → List (GroupOf ℕ) → List Env
row_group_envs g row e groups = map (λ group. group_env g (map row group.rows) (row group.first) e) groups

-- the rows of a group
abbrev pub member_envs : Relation → Env → GroupOf ℕ → List Env
member_envs input e group = map (numbered_env input e) group.rows

-- the rows of the groups
abbrev pub group_envs : Grouping → Relation → Env → List (GroupOf ℕ) → List Env
group_envs g input e groups = row_group_envs g (numbered_env input e) e groups

-- ---- aggregates

-- what an aggregate is of each group's rows, of which the column's values are given
abbrev pub group_values : Aggregate → (ℕ → Value) → List (GroupOf ℕ) → List Value
group_values a value groups = map (λ g. aggregate_of a (length (map value g.rows)) (λ place. map value g.rows)) groups

-- ---- aggregates that run

-- each is the aggregate of a group's rows
abbrev pub AreAfter : Aggregate → (ℕ → Value) → List (GroupOf ℕ) → List Running → Type 0
AreAfter a value [] [] = Unit {0}
AreAfter a value [] (r ∷ running) = ⊥
AreAfter a value (g ∷ groups) [] = ⊥
AreAfter a value (g ∷ groups) (r ∷ running) = IsAfter a (map value g.rows) r × AreAfter a value groups running
