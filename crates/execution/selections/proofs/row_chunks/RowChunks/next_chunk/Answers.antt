use Rattle.std.proofs.Common.{ap, sym, subst, ◌∙◌, List, ◌++◌}
use Rattle.algebra.specs.Bags.{nulls}
use Rattle.joins.specs.ChunkedJoins.{IsChunk, joined_to_come}
use Rattle.relations.specs.Relations.{rows_of}
use Rattle.selections.specs.declared.selecting.Selecting.{Selecting}
use Rattle.selections.specs.Selecting.{columns_above, rows_above}
use Rattle.selections.proofs.RowsAbove.{rows-append, rows-none}
use Rattle.selections.proofs.row_chunks.RowChunks.next_chunk.Goals as goal

pub returns-in_default : goal.returns-in_default
returns-in_default c =
    let above = c.args.self.now.above.items in
    let none = subst (IsChunk c.args.self.now.join c.next_chunk.new.self) c.in_default.is c.in_ok-pairs.ensures.chunk in
    (ap (rows_above above) none.0 ∙ rows-none above, ap (rows_above above) none.1 ∙ rows-none above)

pub returns : goal.returns
returns c =
    let before = c.args.self.now in
    let after = c.next_chunk.new.self in
    let above = before.above.items in
    let r = c.in-Some.pairs in
    let next = subst (IsChunk before.join after) c.in-Some.is c.in_ok-pairs.ensures.chunk in
    let so = c.in_ok-chunk.ensures in
    record {
      columns_are = so.columns_are ∙ ap (λ (h : List Selecting). columns_above h r.heading.columns) c.as_slice.ensures.value ∙ ap (columns_above above) next.columns_are;
      rows_are =
          ap (rows_above above) next.rows_are
          ∙ rows-append above (rows_of r nulls) (joined_to_come after)
          ∙ ap (λ l. l ++ rows_above above (joined_to_come after)) (sym (so.rows_are ∙ ap (λ (h : List Selecting). rows_above h (rows_of r nulls)) c.as_slice.ensures.value));
      fewer = next.fewer;
    }
