use Rattle.std.proofs.Common.{take}
use Rattle.algebra.specs.Bags.{nulls}
use Rattle.relations.specs.Relations.{IsOutput, rows_of}
use Rattle.selections.specs.Selecting.{columns_above, rows_above}
use Rattle.selections.proofs.selecting.all_selected.Given as goal

abbrev pub invariant-loop-how : goal.invariant-loop-how
invariant-loop-how l = IsOutput (columns_above (take l.how-index l.above) l.fn.input.heading.columns) (rows_above (take l.how-index l.above) (rows_of l.fn.input nulls)) nulls l.rows
