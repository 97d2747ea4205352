use Rattle.std.proofs.Common.{◌≡◌, ap, sym, ◌∙◌, ◌<◌, [], length, get_or, arith}
use Rattle.std.proofs.lemmas.List.{get_or-map, length-map}
use Rattle.values.specs.declared.value.Value.TheVariants.{Null}
use Rattle.relations.specs.declared.row_columns.RowColumn.{RowColumn}
use Rattle.relations.specs.MadeColumns.{made_values}
use Rattle.relations.specs.RowColumns.{column_value}
use Rattle.store.proofs.RowKeys.{keys_differ, keys_go_on, keys_same}
use Rattle.grouping.specs.KeyBuckets.{column_key}
use Rattle.grouping.proofs.KeyColumns.{kept-value, kept-width}
use Rattle.grouping.proofs.key_table.KeyTable.has_key.Goals as goal

pub returns-then-ne : goal.returns-then-ne
returns-then-ne g c =
    let columns = c.args.columns.now in
    let kept = c.args.self.now.columns.items in
    let i = c.loop-place.place in
    let made = c.index.result.now in
    let width = c.requires.0.width_is in
    let here = ap (λ (column : RowColumn). column_value column c.args.row) c.index-columns-place.is ∙ sym (get_or-map (λ (column : RowColumn). column_value column c.args.row) columns i c.index-columns-place.result Null (omega arith)) in
    let there = kept-value (length columns) g.keys c.args.self.now c.requires.0 i c.args.group made (omega arith) c.requires.1 (ap made_values c.index.ensures ∙ sym (get_or-map made_values kept i made [] (omega (arith, width)))) in
    keys_differ (column_key columns c.args.row) (get_or g.keys c.args.group []) i c.cell.result c.cell-in-loop-place.result (c.cell.ensures ∙ here) (c.cell-in-loop-place.ensures ∙ there) (sym c.ne.ensures ∙ c.if-ne.true)

pub loop-place-preserved : goal.loop-place-preserved
loop-place-preserved g c =
    let columns = c.args.columns.now in
    let kept = c.args.self.now.columns.items in
    let i = c.loop-place.place in
    let made = c.index.result.now in
    let width = c.requires.0.width_is in
    let long = length-map columns (λ (column : RowColumn). column_value column c.args.row) in
    let wide = kept-width (length columns) g.keys c.args.self.now c.requires.0 c.args.group c.requires.1 in
    let here = ap (λ (column : RowColumn). column_value column c.args.row) c.index-columns-place.is ∙ sym (get_or-map (λ (column : RowColumn). column_value column c.args.row) columns i c.index-columns-place.result Null (omega arith)) in
    let there = kept-value (length columns) g.keys c.args.self.now c.requires.0 i c.args.group made (omega arith) c.requires.1 (ap made_values c.index.ensures ∙ sym (get_or-map made_values kept i made [] (omega (arith, width)))) in
    keys_go_on (column_key columns c.args.row) (get_or g.keys c.args.group []) i c.cell.result c.cell-in-loop-place.result (omega (arith, long)) (omega (arith, wide)) (c.cell.ensures ∙ here) (c.cell-in-loop-place.ensures ∙ there) (sym c.ne.ensures ∙ c.if-ne.false) c.loop-place.invariant

pub returns : goal.returns
returns g c =
    let columns = c.args.columns.now in
    let long = length-map columns (λ (column : RowColumn). column_value column c.args.row) in
    let wide = kept-width (length columns) g.keys c.args.self.now c.requires.0 c.args.group c.requires.1 in
    keys_same (column_key columns c.args.row) (get_or g.keys c.args.group []) c.loop-place.place (omega (arith, long)) (omega (arith, wide)) c.loop-place.invariant
