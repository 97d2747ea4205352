-- Bags of rows, and the operators of the algebra on them.
-- Bags, joins and Null: Guagliardo and Libkin, PVLDB 11(1), 2017. Null-aware antijoins: Bellamkonda et al., PVLDB 2(2), 2009.
use Rattle.std.specs.Prelude.{◌≡◌, ℕ, ◌+◌, Bool, not, if◌then◌else◌, List, [], ◌∷◌, map, filter, flat_map}
use Rattle.std.specs.List.{list_any, list_all}
use Rattle.values.specs.declared.value.Value.{Value}
use Rattle.values.specs.declared.value.Value.TheVariants as value
use Rattle.values.specs.Order.{same}
use Rattle.query.specs.Meaning.{or_else_row}
use Rattle.algebra.specs.Columns.{ColumnSet, has}

-- what each column number reads as: a row, together with the environment around it
abbrev pub Env : Type 0
Env = ℕ → Value

-- a test of rows
abbrev pub Test : Type 0
Test = Env → Bool

-- in each environment some rows, each being the environment overlaid with the row's columns
abbrev pub Bag : Type 0
Bag = Env → List Env

-- the environment overlaid with a row's columns
abbrev pub lay : ColumnSet → Env → Env → Env
lay columns r e c = if columns c then r c else e c

-- Null in each column
abbrev pub nulls : Env
nulls c = value.Null

-- the rows have the same values in the columns, Null being the same as Null
abbrev pub same_on : List ℕ → Env → Env → Bool
same_on columns r s = list_all (λ c. same (r c) (s c)) columns

-- ---- how two bags compare

-- a sum over rows
abbrev pub total : (Env → ℕ) → List Env → ℕ
total f [] = 0
total f (r ∷ rows) = f r + total f rows

-- each row comes as often in one list as in the other: each sum over the rows is the same
abbrev pub SameRows : List Env → List Env → Type 0
SameRows xs ys = (f : Env → ℕ) → total f xs ≡ total f ys

-- the same rows in each environment
abbrev pub SameBag : Bag → Bag → Type 0
SameBag a b = (e : Env) → SameRows (a e) (b e)

-- ---- operators; the columns of the right side of a join are given

-- the rows that pass
abbrev pub select : Test → Bag → Bag
select p x e = filter p (x e)

-- a left row with each right row, where the pair passes
abbrev pub matches : Test → ColumnSet → List Env → Env → List Env
matches p right rows r = filter p (map (λ s. lay right s r) rows)

-- whether a left row has a right row with which it passes
abbrev pub has_match : Test → ColumnSet → List Env → Env → Bool
has_match p right rows r = list_any (λ s. p (lay right s r)) rows

-- the pairs that pass
abbrev pub join : Test → ColumnSet → Bag → Bag → Bag
join p right a b e = flat_map (matches p right (b e)) (a e)

-- the pairs that pass, and each left row that has none, with Nulls
abbrev pub left_join : Test → ColumnSet → Bag → Bag → Bag
left_join p right a b e = flat_map (λ r. or_else_row (lay right nulls r) (matches p right (b e) r)) (a e)

-- the left rows that have a match
abbrev pub semi : Test → ColumnSet → Bag → Bag → Bag
semi p right a b e = filter (has_match p right (b e)) (a e)

-- the left rows that have none
abbrev pub anti : Test → ColumnSet → Bag → Bag → Bag
anti p right a b e = filter (λ r. not (has_match p right (b e) r)) (a e)

-- the rows projected to the columns
abbrev pub keep : ColumnSet → Bag → Bag
keep columns x e = map (λ r. lay columns r e) (x e)

-- one of the rows that are the same in the columns, as first seen
abbrev pub distinct_on : List ℕ → List Env → List Env
distinct_on columns [] = []
distinct_on columns (r ∷ rows) = r ∷ filter (λ s. not (same_on columns r s)) (distinct_on columns rows)

-- one of each row
abbrev pub distinct : List ℕ → Bag → Bag
distinct columns x e = keep (has columns) (λ e. distinct_on columns (x e)) e

-- one row for each different key, made of a row with it and of all of them; without keys one row, made of all rows
abbrev pub group : List ℕ → (List Env → Env → Env) → Bag → Bag
group [] add x e = add (x e) e ∷ []
group (k ∷ keys) add x e = map (λ r. add (filter (same_on (k ∷ keys) r) (x e)) (lay (has (k ∷ keys)) r e)) (distinct_on (k ∷ keys) (x e))
