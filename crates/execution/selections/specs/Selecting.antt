-- Operators that select from the rows of their input.
use Rattle.std.specs.Prelude.{◌≡◌, ℕ, List, [], ◌∷◌, filter, map}
use Rattle.algebra.specs.Bags.{Env, lay, nulls}
use Rattle.algebra.specs.Columns.{has}
use Rattle.algebra.specs.Conditions.{holds}
use Rattle.physical.specs.declared.plan.Node.{Node}
use Rattle.physical.specs.declared.plan.Node.TheVariants.{Implements}
use Rattle.physical.specs.declared.plan.Operator.TheVariants as by
use Rattle.physical.specs.Outputs.{no_classes}
use Rattle.selections.specs.declared.selecting.Selecting.{Selecting}
use Rattle.selections.specs.declared.selecting.Selecting.TheVariants.{Filter, Projection}

-- the node selects so
abbrev pub IsSelecting : Node → Selecting → Type 0
IsSelecting node (Filter C) = (line : ℕ) × (node ≡ Implements line (by.Filter C.now))
IsSelecting node (Projection K) = (line : ℕ) × (node ≡ Implements line (by.Projection K.now))

-- the columns and the rows that are left of an input's
abbrev pub selecting_columns : Selecting → List ℕ → List ℕ
selecting_columns (Filter C) columns = columns
selecting_columns (Projection K) columns = K.now

abbrev pub selecting_rows : Selecting → List Env → Env → List Env
selecting_rows (Filter C) rows e = filter (holds no_classes C.now) rows
selecting_rows (Projection K) rows e = map (λ r. lay (has K.now) r e) rows

-- those that several operators leave, the lowest first
abbrev pub columns_above : List Selecting → List ℕ → List ℕ
columns_above [] columns = columns
columns_above (how ∷ above) columns = columns_above above (selecting_columns how columns)

abbrev pub rows_above : List Selecting → List Env → List Env
rows_above [] rows = rows
rows_above (how ∷ above) rows = rows_above above (selecting_rows how rows nulls)
