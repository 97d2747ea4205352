use Rattle.std.proofs.Common.{◌++◌, ◌&&◌, not, take, option_to_list}
use Rattle.std.specs.List.{list_any}
use Rattle.algebra.specs.Columns.{has}
use Rattle.algebra.specs.GivenColumns.{HasAlso, given_columns}
use Rattle.logs.proofs.free.add_all_lacking.Given as goal

abbrev pub invariant-loop-column : goal.invariant-loop-column
invariant-loop-column l = HasAlso l.free.items l.fn.free.items (λ k. has (take l.column-index l.columns) k && not (list_any (λ g. has (given_columns l.classes g) k) (option_to_list l.inputs.0 ++ option_to_list l.inputs.1)))
