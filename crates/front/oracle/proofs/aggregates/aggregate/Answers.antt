use Rattle.std.proofs.Common.{ap, sym, subst, ◌∙◌, arith}
use Rattle.std.specs.List.{AllByRecursion}
use Rattle.values.specs.Cells.{value_of}
use Rattle.values.proofs.Each.{all_from_map, item_at}
use Rattle.query.specs.Rows.{value_at}
use Rattle.values.specs.Short.{IsShort}
use Rattle.query.specs.Aggregates.{MayRead}
use Rattle.query.proofs.RunningAggregates.{read-column}
use Rattle.query.proofs.ShortTables.{short-read}
use Rattle.oracle.proofs.aggregates.aggregate.Goals as goal

pub add-requires-clause-read : goal.add-requires-clause-read
add-requires-clause-read c =
    let row = c.row-item.result in
    let short = item_at _ c.args.rows.now c.loop-row.row-index row (omega arith) c.row-item.is (all_from_map (AllByRecursion IsShort) _ c.args.rows.now c.requires) in
    let is = c.value_at.ensures ∙ ap (value_at c.column_of.result) c.as_slice.ensures ∙ ap (λ place. value_at place row.now) c.column_of.ensures in
    subst (λ a. MayRead a (λ place. value_of c.value_at.result)) (sym c.loop-row.invariant.of) (read-column c.args.of (λ place. value_at place row.now) _ (short-read c.args.of row.now short) is)
