use Rattle.std.proofs.Common.{ap, sym, ◌∙◌, ℕ, arith}
use Rattle.std.proofs.lemmas.List.{get_or-map, length-map}
use Rattle.values.specs.declared.value.Value.TheVariants.{Null}
use Rattle.relations.specs.declared.row_columns.RowColumn.{RowColumn}
use Rattle.relations.specs.RowColumns.{column_value}
use Rattle.store.proofs.RowKeys.{keys_differ, keys_go_on, keys_same}
use Rattle.grouping.specs.KeyBuckets.{column_key}
use Rattle.grouping.proofs.keys.are_same.Goals as goal

pub returns-then-ne : goal.returns-then-ne
returns-then-ne c =
    let columns = c.args.columns.now in
    let i = c.loop-column.column-index in
    let at = λ (n : ℕ). ap (λ (column : RowColumn). column_value column n) c.column-item.is ∙ sym (get_or-map (λ (column : RowColumn). column_value column n) columns i c.column-item.result Null (omega arith)) in
    keys_differ (column_key columns c.args.one) (column_key columns c.args.other) i c.cell.result c.cell-in-loop-column.result (c.cell.ensures ∙ at c.args.one) (c.cell-in-loop-column.ensures ∙ at c.args.other) (sym c.ne.ensures ∙ c.if-ne.true)

pub loop-column-preserved : goal.loop-column-preserved
loop-column-preserved c =
    let columns = c.args.columns.now in
    let i = c.loop-column.column-index in
    let at = λ (n : ℕ). ap (λ (column : RowColumn). column_value column n) c.column-item.is ∙ sym (get_or-map (λ (column : RowColumn). column_value column n) columns i c.column-item.result Null (omega arith)) in
    let long = λ (n : ℕ). length-map columns (λ (column : RowColumn). column_value column n) in
    keys_go_on (column_key columns c.args.one) (column_key columns c.args.other) i c.cell.result c.cell-in-loop-column.result (omega (arith, long c.args.one)) (omega (arith, long c.args.other))
    (c.cell.ensures ∙ at c.args.one) (c.cell-in-loop-column.ensures ∙ at c.args.other) (sym c.ne.ensures ∙ c.if-ne.false) c.loop-column.invariant

pub returns : goal.returns
returns c =
    let columns = c.args.columns.now in
    let long = λ (n : ℕ). length-map columns (λ (column : RowColumn). column_value column n) in
    keys_same (column_key columns c.args.one) (column_key columns c.args.other) c.loop-column.column-index (omega (arith, long c.args.one)) (omega (arith, long c.args.other)) c.loop-column.invariant
