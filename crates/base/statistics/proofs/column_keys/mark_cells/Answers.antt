use Rattle.std.proofs.Common.{◌≡◌, ◌<◌, ap, sym, ◌∙◌, length, Bool, List, false, get_or, arith}
use Rattle.values.specs.Cells.{value_of}
use Rattle.values.specs.Truth.{is_null}
use Rattle.statistics.specs.ColumnKeys.{slot_at}
use Rattle.statistics.proofs.ColumnValues.{null_more, marked_more, length_more}
use Rattle.statistics.proofs.column_keys.mark_cells.Goals as goal
use Rattle.statistics.proofs.column_keys.mark_cells.Goals.{then-not-is_null, else-not-is_null}

pub loop-row-preserved : goal.loop-row-preserved
loop-row-preserved c =
    let place = c.args.place in
    let rows = c.args.rows.now in
    let row = c.loop-row.row in
    let slots = length c.args.marks.now in
    let low : row < length rows = omega (arith, c.len-row-end.ensures) in
    let v = value_of c.cell-cell.result in
    let here = sym c.cell-cell.ensures in
    let before = c.loop-row.invariant in
    let few = before.2 in
    elim c.if-not-is_null.branch [
      | then-not-is_null w ↦
          let whole : is_null v ≡ false = sym c.is_null.ensures ∙ w.if-not-is_null.true in
          let at = w.slot_of.ensures.slot ∙ ap (λ n. slot_at n w.number_of.result) c.loop-row.auto.marks ∙ ap (slot_at slots) w.number_of.ensures in (
            λ s. ap (λ (ms : List Bool). get_or ms s false) w.marks-is ∙ marked_more place rows row low slots w.slot_of.result v c.loop-row.marks here whole at w.slot_of.ensures.within before.0 s,
            w.values-is ∙ length_more place rows row low v c.loop-row.values here whole before.1,
            omega (arith, w.values-is, few),
          )
      | else-not-is_null w ↦
          let same = null_more place rows row low v here (sym c.is_null.ensures ∙ w.if-not-is_null.false) in
          rw (same, w.marks-is, w.values-is) (before.0, before.1, omega (arith, few))
    ]
