-- The classes of a list of founding expressions. The list stands last first, so that each expression names classes of its
-- tail, and founds the class numbered by the tail's length.
use Rattle.std.specs.Prelude.{◌≡◌, ℕ, true, false, ◌-◌, ◌==◌, nat_lt, if◌then◌else◌, List, [], ◌∷◌, length, reverse}
use Rattle.query.specs.declared.query.TableInstance.{TableInstance}
use Rattle.query.specs.Rows.{Tables}
use Rattle.algebra.specs.declared.expr.Aggregation.{Aggregation}
use Rattle.algebra.specs.declared.expr.Expr.{Expr}
use Rattle.algebra.specs.Columns.{ColumnSet}
use Rattle.algebra.specs.Bags.{Bag}
use Rattle.algebra.specs.Expressions.{Classes, means, columns_of, free_of, classes_pass, is_formed}

-- the columns of each class
abbrev pub class_columns : List TableInstance → List Expr → ℕ → List ℕ
class_columns instances [] g = []
class_columns instances (x ∷ E) g = if g == length E then columns_of instances (class_columns instances E) x else class_columns instances E g

-- the free columns of each class
abbrev pub class_free : List TableInstance → List Expr → ℕ → ColumnSet
class_free instances [] g c = false
class_free instances (x ∷ E) g c = if g == length E then free_of (class_columns instances E) (class_free instances E) x c else class_free instances E g c

-- the rows of each class: those of its founding expression over the classes before it
abbrev pub class_rows : List TableInstance → Tables → List Expr → ℕ → Bag
class_rows instances D [] g e = []
class_rows instances D (x ∷ E) g e =
    if g == length E then means instances D (record { rows = class_rows instances D E; columns = class_columns instances E; free = class_free instances E }) x e
    else class_rows instances D E g e

abbrev pub classes : List TableInstance → Tables → List Expr → Classes
classes instances D E = record { rows = class_rows instances D E; columns = class_columns instances E; free = class_free instances E }

-- the rows of the class that the last of the expressions founds, in their order
abbrev pub root_rows : List TableInstance → Tables → List Expr → Bag
root_rows instances D lines = class_rows instances D (reverse lines) (length lines - 1)

-- each expression names earlier classes alone, and is well formed over their columns, where these aggregates are the query's own
abbrev pub AreFormed : List TableInstance → List Aggregation → List Expr → Type 0
AreFormed instances own [] = Unit {0}
AreFormed instances own (x ∷ E) = (classes_pass (λ g. nat_lt g (length E)) x ≡ true) × (is_formed instances own (class_columns instances E) x ≡ true) × AreFormed instances own E
