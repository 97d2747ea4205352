-- The columns and the free columns of classes, where code is given them in lists by the classes' numbers.
use Rattle.std.specs.Prelude.{◌≡◌, ℕ, ◌||◌, List}
use Rattle.algebra.specs.declared.mentions.ClassColumns.{ClassColumns}
use Rattle.algebra.specs.Columns.{ColumnSet, has, columns_at}

abbrev pub given_columns : ClassColumns → ℕ → List ℕ
given_columns given = columns_at given.columns.now

abbrev pub given_free : ClassColumns → ℕ → ColumnSet
given_free given g = has (columns_at given.free.now g)

-- a list has the columns of another and of a set
abbrev pub HasAlso : List ℕ → List ℕ → ColumnSet → Type 0
HasAlso all columns more = (k : ℕ) → has all k ≡ (has columns k || more k)
