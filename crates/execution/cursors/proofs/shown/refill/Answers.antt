use Rattle.std.proofs.Common.{ap, sym, subst, ◌∙◌, ◌<◌, List, ◌++◌, Option, map}
use Rattle.schema.specs.Databases.{Row}
use Rattle.algebra.specs.Bags.{nulls}
use Rattle.relations.specs.Relations.{column_place, rows_of}
use Rattle.relations.specs.declared.environment.Env.{Empty}
use Rattle.selections.specs.declared.row_chunks.RowChunks.{RowChunks}
use Rattle.selections.specs.RowChunks.{IsSelectedChunk, chunks_to_come, pairs_to_come}
use Rattle.cursors.specs.ShownRows.{left_behind, shown_chunks}
use Rattle.cursors.proofs.Refills.{refilled, shown-none}
use Rattle.cursors.proofs.shown.refill.Goals as goal

pub returns : goal.returns
returns c =
    let old = c.args.shown.now in
    let columns = old.columns.items in
    let before = c.in-Some.more in
    let after = c.next_chunk.new.self in
    let s = c.all_rows-selected.result in
    let next = subst (IsSelectedChunk before after) c.in-Some-2.is c.in_ok-chunk.ensures in
    let all = c.all_rows-selected.ensures Empty in
    let placed = c.in_ok-shown.ensures ∙ ap (map (column_place s.relation.heading)) c.as_slice.ensures.value in
    let handed = ap (λ (l : List Row). l ++ shown_chunks old.more columns) (shown-none old.rows old.places c.requires) ∙ ap (λ (o : Option RowChunks). shown_chunks o columns) c.in-Some.is in (
      refilled c.restart.new.self s c.in_ok-shown.field-0 columns before after c.restart.ensures.selected (c.restart.ensures.numbers Empty) placed (next.rows_are ∙ ap (λ l. l ++ chunks_to_come after) (sym all.rows_are)) ∙ sym handed,
      subst (λ (o : Option RowChunks). pairs_to_come after < left_behind o) (sym c.in-Some.is) next.fewer,
    )
