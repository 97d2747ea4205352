use Rattle.std.proofs.Common.{ap, sym, ◌∙◌, [], ◌∷◌, ◌++◌, map, take, Some, arith}
use Rattle.std.proofs.lemmas.List.{get_or_default, map-append}
use Rattle.values.proofs.Lists.{map_next}
use Rattle.values.specs.declared.value.Value.{Value}
use Rattle.relations.specs.declared.headings.Place.{Place}
use Rattle.relations.specs.declared.row_columns.RowColumn.{RowColumn}
use Rattle.relations.specs.Parts.{row_at, value_in}
use Rattle.relations.specs.RowColumns.{column_value}
use Rattle.grouping.specs.KeyBuckets.{column_key}
use Rattle.grouping.proofs.keys.placed_columns.Goals as goal

pub loop-place-preserved : goal.loop-place-preserved
loop-place-preserved c = λ n.
    let columns = c.loop-place.columns.items in
    let places = c.args.places.now in
    let i = c.loop-place.place-index in
    let row = row_at c.args.rows.now.parts.items n in
    let value : Place → Value = λ place. value_in (Some place) row in
    ap (λ cs. column_key cs n) c.in_ok-push.ensures.items ∙ map-append (λ (column : RowColumn). column_value column n) columns (c.column.result ∷ [])
    ∙ ap (λ vs. vs ++ column_value c.column.result n ∷ []) (c.loop-place.invariant n) ∙ ap (λ v. map value (take i places) ++ v ∷ []) (c.column.ensures n)
    ∙ sym (map_next value places i _ (omega arith) (get_or_default places i _ _ (omega arith)))
