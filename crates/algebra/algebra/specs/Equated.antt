-- Which columns a condition equates: by it a join finds its matches by hash or by merging.
use Rattle.std.specs.Prelude.{ℕ, Bool, false, ◌&&◌, ◌||◌, Option, Some, None}
use Rattle.values.specs.declared.truth.Comparison.TheVariants as by
use Rattle.algebra.specs.declared.condition.Term.{Term}
use Rattle.algebra.specs.declared.condition.Term.TheVariants.{Column}
use Rattle.algebra.specs.declared.condition.Condition.{Condition, out-Condition}
use Rattle.algebra.specs.declared.condition.Condition.TheOpen.{Condition-F}
use Rattle.algebra.specs.Columns.{ColumnSet}

abbrev pub both_columns : Term → Term → Option (ℕ × ℕ)
both_columns (Column a) (Column b) = Some (a, b)
both_columns s t = None

abbrev pub equated_layer : Condition-F Condition → Option (ℕ × ℕ)
equated_layer (Condition-F.Compare by.Equal s t) = both_columns s t
equated_layer c = None

-- the two columns of an equality of columns
abbrev pub equated : Condition → Option (ℕ × ℕ)
equated c = equated_layer (out-Condition c)

abbrev pub is_across : ColumnSet → ColumnSet → Option (ℕ × ℕ) → Bool
is_across left right None = false
is_across left right (Some pair) = left pair.0 && right pair.1 || left pair.1 && right pair.0

-- whether a condition equates a column of the one side with one of the other
abbrev pub equates : ColumnSet → ColumnSet → Condition → Bool
equates left right c = is_across left right (equated c)
