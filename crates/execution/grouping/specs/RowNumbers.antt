-- Numbers of rows and groups.
use Rattle.std.specs.Prelude.{ℕ, List}
use Rattle.grouping.specs.declared.row_numbers.RowNumbers.{RowNumbers}
use Rattle.grouping.specs.declared.row_numbers.RowNumbers.TheVariants.{Short, Long}

-- in either form
abbrev pub numbers_in : RowNumbers → List ℕ
numbers_in (Short numbers) = numbers.items
numbers_in (Long numbers) = numbers.items
