-- Rows, relations and environments of an executor, as those of the algebra.
use Rattle.std.specs.Prelude.{◌≡◌, ℕ, zero, suc, ◌==◌, if◌then◌else◌, List, [], ◌∷◌, map, Option, Some, None}
use Rattle.std.specs.Borrow.{Bor}
use Rattle.std.specs.List.{range_with_len}
use Rattle.schema.specs.Databases.{Row}
use Rattle.algebra.specs.Columns.{has}
use Rattle.algebra.specs.Bags.{Env, Bag, lay, nulls}
use Rattle.physical.specs.Outputs.{Output, no_classes}
use Rattle.relations.specs.Parts.{row_at, value_in}
use Rattle.relations.specs.Places.{place_in, place_list}
use Rattle.relations.specs.declared.headings.Heading.{Heading}
use Rattle.relations.specs.declared.headings.Place.{Place}
use Rattle.relations.specs.declared.relation.Relation.{Relation}
use Rattle.relations.specs.declared.environment.Env as lent
use Rattle.relations.specs.declared.environment.Env.{Empty, Inner'}

-- ---- rows

-- a column's place in the rows under a heading, and the places of those of the columns that have one
abbrev pub column_place : Heading → ℕ → Option Place
column_place h c = place_in h.columns h.places.items c

abbrev pub column_places : Heading → List ℕ → List Place
column_places h K = place_list h.columns h.places.items K

-- the environment overlaid with a row
abbrev pub row_env : Heading → List Row → Env → Env
row_env h row e = lay (has h.columns) (λ c. value_in (column_place h c) row) e

-- ---- relations

-- the environment overlaid with the row with a number
abbrev pub numbered_env : Relation → Env → ℕ → Env
numbered_env r e n = row_env r.heading (row_at r.rows.parts.items n) e

-- the numbers of a relation's rows
abbrev pub numbers_of : Relation → List ℕ
numbers_of r = range_with_len 0 r.rows.count

-- the rows of a relation in an environment
abbrev pub rows_of : Relation → Bag
rows_of r e = map (numbered_env r e) (numbers_of r)

-- a relation has these columns, and in the environment these rows
pub record IsOutput (columns : List ℕ) (rows : List Env) (e : Env) (r : Relation) : Type 0 where
  pub columns_are : r.heading.columns ≡ columns
  pub rows_are : rows_of r e ≡ rows

-- ---- environments

-- what each column reads as
abbrev pub env_of : lent.Env → Env
env_of Empty = nulls
env_of (Inner' relation number _ outer) = numbered_env relation.now (env_of outer) number

-- ---- subqueries

-- the rows of each class, where each has a relation
abbrev pub given : List ℕ → List Relation → ℕ → Bag
given [] relations = no_classes
given (g ∷ classes) [] = no_classes
given (g ∷ classes) (r ∷ relations) = λ h. if g == h then rows_of r else given classes relations h

-- the rows of a relation that is lent, if there is one
abbrev pub rows_given : Option (Bor Relation) → Bag
rows_given None e = []
rows_given (Some r) e = rows_of r.now e

-- ---- inputs of an operator

-- a relation is the output of the input with this number; nothing where there is none
abbrev pub IsInputOutput : List Output → ℕ → Env → Relation → Type 0
IsInputOutput [] number e = IsOutput [] [] e
IsInputOutput (p ∷ inputs) zero e = IsOutput p.columns (p.rows e) e
IsInputOutput (p ∷ inputs) (suc number) e = IsInputOutput inputs number e

-- each relation is the output of its input
abbrev pub AreOutputs : List Output → Env → List Relation → Type 0
AreOutputs [] e [] = Unit {0}
AreOutputs [] e (r ∷ relations) = ⊥
AreOutputs (p ∷ inputs) e [] = ⊥
AreOutputs (p ∷ inputs) e (r ∷ relations) = IsOutput p.columns (p.rows e) e r × AreOutputs inputs e relations
