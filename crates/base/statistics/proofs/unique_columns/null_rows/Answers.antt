use Rattle.std.proofs.Common.{◌≡◌, ◌<◌, ◌∙◌, length, [], get_or, ap, sym, arith}
use Rattle.std.specs.List.{count_by}
use Rattle.std.proofs.lemmas.List.{take_all}
use Rattle.std.proofs.lemmas.List.Sums.{count_by_more_yes, count_by_more_no}
use Rattle.values.specs.Truth.{is_null}
use Rattle.statistics.specs.UniqueLists as spec
use Rattle.statistics.proofs.unique_columns.null_rows.Goals as goal
use Rattle.statistics.proofs.unique_columns.null_rows.Goals.{then-is_null, else-is_null}

pub loop-row-preserved : goal.loop-row-preserved
loop-row-preserved c =
    let tested : spec.is_null_at c.args.place (get_or c.args.rows.now c.loop-row.row []) ≡ c.is_null.result = ap is_null (sym c.cell.ensures) ∙ sym c.is_null.ensures in
    let before = c.loop-row.invariant.0 in
    let few = c.loop-row.invariant.1 in
    let low : c.loop-row.row < length c.args.rows.now = omega (arith, c.len-row-end.ensures) in
    elim c.if-is_null.branch [
      | then-is_null w ↦
          let more = count_by_more_yes (spec.is_null_at c.args.place) c.args.rows.now c.loop-row.row [] low (tested ∙ w.if-is_null.true) in
          (omega (arith, more, before, w.nulls-is), omega (arith, few, w.nulls-is))
      | else-is_null w ↦
          let more = count_by_more_no (spec.is_null_at c.args.place) c.args.rows.now c.loop-row.row [] low (tested ∙ w.if-is_null.false) in
          (omega (arith, more, before, w.nulls-is), omega (arith, few, w.nulls-is))
    ]

pub returns : goal.returns
returns c = c.loop-row.invariant.0 ∙ ap (count_by (spec.is_null_at c.args.place)) (take_all c.loop-row.row c.args.rows.now (omega (arith, c.len-row-end.ensures)))
