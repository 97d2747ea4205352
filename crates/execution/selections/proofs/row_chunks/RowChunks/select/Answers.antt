use Rattle.std.proofs.Common.{ap, ◌∙◌, List}
use Rattle.joins.specs.ChunkedJoins.{joined_columns, joined_to_come}
use Rattle.selections.specs.declared.selecting.Selecting.{Selecting}
use Rattle.selections.specs.Selecting.{columns_above, rows_above}
use Rattle.selections.proofs.RowsAbove.{columns-more, rows-more}
use Rattle.selections.proofs.row_chunks.RowChunks.select.Goals as goal

pub returns : goal.returns
returns c =
    let old = c.args.self.now in
    let more = c.in_ok-push.ensures.items in
    record {
      columns_are = ap (λ (above : List Selecting). columns_above above (joined_columns old.join)) more ∙ columns-more old.above.items c.args.how (joined_columns old.join);
      rows_are = ap (λ (above : List Selecting). rows_above above (joined_to_come old.join)) more ∙ rows-more old.above.items c.args.how (joined_to_come old.join);
    }
