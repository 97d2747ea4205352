-- Values that an operator made.
use Rattle.std.specs.Prelude.{◌^◌, ◌-◌, ℤ, negsuc, List, [], ◌∷◌, map, if◌then◌else◌}
use Rattle.std.specs.Ordering.{int_eq}
use Rattle.values.specs.declared.value.Value.{Value}
use Rattle.values.specs.declared.value.Value.TheVariants as value
use Rattle.values.specs.Cells.{value_of}
use Rattle.schema.specs.Databases.{Row}
use Rattle.relations.specs.declared.made_columns.MadeColumn.{MadeColumn}
use Rattle.relations.specs.declared.made_columns.MadeColumn.TheVariants.{Marked, Cells}

-- the value that a number of 64 bits stands for: the least of these is the mark of Null
abbrev pub marked_value : ℤ → Value
marked_value n = if int_eq n (negsuc (2 ^ 63 - 1)) then value.Null else value.Int n

abbrev pub made_values : MadeColumn → List Value
made_values (Marked numbers) = map marked_value numbers.items
made_values (Cells cells) = map value_of cells.items

-- a row of each value
abbrev pub made_rows : MadeColumn → List Row
made_rows column = map (λ v. v ∷ []) (made_values column)
