use Rattle.std.proofs.Common.{◌++◌, option_to_list}
use Rattle.std.specs.List.{list_any}
use Rattle.algebra.specs.Columns.{has}
use Rattle.algebra.specs.GivenColumns.{given_columns}
use Rattle.logs.proofs.FreeColumns.{lacking-more}
use Rattle.logs.proofs.free.add_all_lacking.Goals as goal

pub loop-column-preserved : goal.loop-column-preserved
loop-column-preserved c =
    lacking-more (λ k. list_any (λ g. has (given_columns c.args.classes g) k) (option_to_list c.args.inputs.0 ++ option_to_list c.args.inputs.1)) c.args.columns.now c.loop-column.column-index
    c.args.free.now.items c.loop-column.free.items _ c.loop-column-test.true c.loop-column.invariant c.in_ok-add_lacking.ensures
