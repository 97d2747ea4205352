use Rattle.std.proofs.Common.{ap, sym, ◌∙◌, List, take, arith}
use Rattle.std.proofs.lemmas.List.{take_more}
use Rattle.algebra.specs.Bags.{nulls}
use Rattle.relations.specs.Relations.{rows_of}
use Rattle.selections.specs.declared.selecting.Selecting.{Selecting}
use Rattle.selections.specs.Selecting.{columns_above, rows_above, selecting_columns, selecting_rows}
use Rattle.selections.proofs.RowsAbove.{columns-more, rows-more}
use Rattle.selections.proofs.selecting.all_selected.Goals as goal

pub loop-how-preserved : goal.loop-how-preserved
loop-how-preserved c =
    let above = c.args.above.now in
    let i = c.loop-how.how-index in
    let K = c.args.input.heading.columns in
    let X = rows_of c.args.input nulls in
    let taken = take_more above i c.how-item.result (omega arith) in
    let so = c.loop-how.invariant in
    record {
      columns_are = c.in_ok-rows.ensures.columns_are ∙ ap (selecting_columns c.how-item.result) so.columns_are ∙ ap (λ (how : Selecting). selecting_columns how (columns_above (take i above) K)) c.how-item.is ∙ sym (ap (λ (l : List Selecting). columns_above l K) taken ∙ columns-more (take i above) _ K);
      rows_are = c.in_ok-rows.ensures.rows_are ∙ ap (λ rows. selecting_rows c.how-item.result rows nulls) so.rows_are ∙ ap (λ (how : Selecting). selecting_rows how (rows_above (take i above) X) nulls) c.how-item.is ∙ sym (ap (λ (l : List Selecting). rows_above l X) taken ∙ rows-more (take i above) _ X);
    }
