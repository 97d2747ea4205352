use Rattle.std.proofs.Common.{◌≡◌, ◌∙◌, ap, sym, List, [], ◌∷◌, ◌++◌, map, take, arith}
use Rattle.values.proofs.Lists.{map_next}
use Rattle.schema.specs.Databases.{Row}
use Rattle.query.specs.declared.query.Item.{Item}
use Rattle.query.specs.Meaning.{row_of_row}
use Rattle.oracle.specs.declared.blocks.View.{View}
use Rattle.oracle.specs.Given.{env_of}
use Rattle.oracle.specs.Views.{view_of_row}
use Rattle.oracle.proofs.blocks.views_of_rows.Goals as goal

pub loop-row-preserved : goal.loop-row-preserved
loop-row-preserved c =
    let view : Row → View = view_of_row c.args.block.now (env_of c.args.env.now) in
    let at : List Item → Row → Row = row_of_row (env_of c.args.env.now) in
    let asked : c.in_ok-asked.asked ≡ at c.args.block.now.having_items c.row-item.result =
    c.in_ok-asked.ensures ∙ ap (λ (items : List Item). at items c.as_slice-in-loop-row.result.now) c.as_slice.ensures ∙ ap (at c.args.block.now.having_items) c.as_slice-in-loop-row.ensures in
    let shown : c.in_ok-shown.shown ≡ at c.args.block.now.items c.row-item.result =
    c.in_ok-shown.ensures ∙ ap (λ (items : List Item). at items c.as_slice-in-loop-row-3.result.now) c.as_slice-in-loop-row-2.ensures ∙ ap (at c.args.block.now.items) c.as_slice-in-loop-row-3.ensures in
    c.in_ok-push.ensures.items
    ∙ ap (λ (l : List View). l ++ record { asked = c.in_ok-asked.asked; shown = c.in_ok-shown.shown } ∷ []) c.loop-row.invariant
    ∙ ap (λ (r : Row). map view (take c.loop-row.row-index c.args.source.now) ++ record { asked = r; shown = c.in_ok-shown.shown } ∷ []) asked
    ∙ ap (λ (r : Row). map view (take c.loop-row.row-index c.args.source.now) ++ record { asked = at c.args.block.now.having_items c.row-item.result; shown = r } ∷ []) shown
    ∙ sym (map_next view c.args.source.now c.loop-row.row-index c.row-item.result (omega arith) c.row-item.is)
