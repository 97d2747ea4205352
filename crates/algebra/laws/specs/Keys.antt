-- What rows can't have: Nulls in a column, and columns on which two of them agree.
-- Keys that are Null and rows that agree: SQL's UNIQUE and PRIMARY KEY (ISO/IEC 9075-2); Null is the same as Null in a strong one.
use Rattle.std.specs.Prelude.{◌≡◌, ℕ, ◌≤◌, false, if◌then◌else◌, List}
use Rattle.std.specs.List.{list_any}
use Rattle.values.specs.Truth.{is_null}
use Rattle.algebra.specs.Columns.{ColumnSet}
use Rattle.algebra.specs.Bags.{Env, Test, Bag, total, lay, same_on}

-- how many rows pass
abbrev pub count : Test → List Env → ℕ
count p rows = total (λ r. if p r then 1 else 0) rows

-- no row has Null in the column
abbrev pub HasNoNull : ℕ → Bag → Type 0
HasNoNull c x = (e : Env) → count (λ r. is_null (r c)) (x e) ≡ 0

-- whether a row has Null in one of the columns
abbrev pub has_null : List ℕ → Test
has_null K r = list_any (λ k. is_null (r k)) K

-- no two rows without Null in the columns agree on them: with what has no Null there at most one row does
abbrev pub IsWeakKey : List ℕ → Bag → Type 0
IsWeakKey K x = (e r : Env) → has_null K r ≡ false → count (same_on K r) (x e) ≤ 1

-- no two rows agree on the columns: with anything at most one row does
abbrev pub IsStrongKey : List ℕ → Bag → Type 0
IsStrongKey K x = (e r : Env) → count (same_on K r) (x e) ≤ 1

-- no row finds two rows of the bag with which the test passes
abbrev pub IsSingle : Test → ColumnSet → Bag → Type 0
IsSingle p B b = (e r : Env) → count (λ s. p (lay B s r)) (b e) ≤ 1
