-- Classes in disjoint sets.
use Rattle.std.specs.Prelude.{◌≡◌, ℕ, ◌<◌, ◌≤◌, true, false, ◌||◌, ◌==◌, ◌⊎◌, List, length, slice_index_or, vec_len, vec_capacity}
use Rattle.std.specs.List.{count_by}
use Rattle.std.specs.declared.vec.Vec.{Vec}
use Rattle.algebra.specs.Columns.{has, columns_at}
use Rattle.props.specs.declared.fact.FactSets.{FactSets}
use Rattle.props.specs.Facts.{with_facts}
use Rattle.props.specs.Knowledge.{root_in, set_facts, facts_or_none}
use Rattle.derivation.specs.Logs.{united}
use Rattle.logs.specs.declared.sets.ClassSets.{ClassSets}

-- the class that stands for a class's set; the class itself where there is none of its number
abbrev pub root_of : ClassSets → ℕ → ℕ
root_of s = root_in s.sets.items s.roots.items

-- the facts of a class's set
abbrev pub facts_of : ClassSets → ℕ → FactSets
facts_of s g = facts_or_none (set_facts s.sets.items s.facts.items g)

abbrev pub set_at : List ℕ → ℕ → ℕ
set_at sets g = slice_index_or sets g 0

-- how often a list has a number
abbrev pub times : ℕ → List ℕ → ℕ
times n xs = count_by (λ k. k == n) xs

-- each class is in the set of its number once, and in no other, and the class that stands for the set is in it too
pub record AreSetsOf (sets standing : List ℕ) (classes : List (List ℕ)) (known : List FactSets) : Type 0 where
  pub roots : length standing ≡ length sets
  pub members : length classes ≡ length sets
  pub facts : length known ≡ length sets
  pub bounded : (g : ℕ) → g < length sets → set_at sets g < length sets
  pub complete : (g : ℕ) → g < length sets → has (columns_at classes (set_at sets g)) g ≡ true
  pub once : (set g : ℕ) → times g (columns_at classes set) ≤ 1
  pub sound : (set g : ℕ) → has (columns_at classes set) g ≡ true → (g < length sets) × (set_at sets g ≡ set)
  pub stands : (g : ℕ) → g < length sets → (root_in sets standing g < length sets) × (set_at sets (root_in sets standing g) ≡ set_at sets g)

abbrev pub AreSets : ClassSets → Type 0
AreSets s = AreSetsOf s.sets.items s.roots.items s.members.items s.facts.items

-- the facts of two classes, one list's behind the other's
abbrev pub AreOfBoth : FactSets → FactSets → FactSets → Type 0
AreOfBoth F G both = (both ≡ with_facts F G) ⊎ (both ≡ with_facts G F)

-- the facts of one set went over to another
pub record AreFactsJoined (facts : List FactSets) (into from : ℕ) (joined : List FactSets) : Type 0 where
  pub count : length joined ≡ length facts
  pub both : (d : FactSets) → AreOfBoth (slice_index_or facts into d) (slice_index_or facts from d) (slice_index_or joined into d)
  pub others : (r : ℕ) (d : FactSets) → (r == into) ≡ false → (r == from) ≡ false → slice_index_or joined r d ≡ slice_index_or facts r d

-- the sets of two classes are one: one class stands for both, and their facts are those of both
pub record AreUnited (s : ClassSets) (a b : ℕ) (t : ClassSets) : Type 0 where
  pub roots : (g : ℕ) → root_of t g ≡ united (root_of s a) (root_of s b) (root_of s g)
  pub facts : (root_of s a == root_of s b) ≡ false → (g : ℕ) → (root_of s g == root_of s a || root_of s g == root_of s b) ≡ true → AreOfBoth (facts_of s a) (facts_of s b) (facts_of t g)
  pub others : (g : ℕ) → (root_of s g == root_of s a || root_of s g == root_of s b) ≡ false → facts_of t g ≡ facts_of s g
  pub nothing : (root_of s a == root_of s b) ≡ true → (g : ℕ) → facts_of t g ≡ facts_of s g

-- the same lists
pub record AreAlike (s t : ClassSets) : Type 0 where
  pub sets : t.sets.items ≡ s.sets.items
  pub roots : t.roots.items ≡ s.roots.items
  pub members : t.members.items ≡ s.members.items
  pub facts : t.facts.items ≡ s.facts.items

-- ---- room

abbrev pub has_room : {X Z : Type 0} → Vec X Z → Type 0
has_room v = vec_len v < vec_capacity v

-- there is room for one class more
pub record HasRoom (s : ClassSets) : Type 0 where
  pub sets : has_room s.sets
  pub roots : has_room s.roots
  pub members : has_room s.members
  pub facts : has_room s.facts

abbrev pub KeepsRoom : {X Z : Type 0} → Vec X Z → Vec X Z → Type 0
KeepsRoom v w = (vec_len w ≡ vec_len v) × (vec_capacity w ≡ vec_capacity v)
