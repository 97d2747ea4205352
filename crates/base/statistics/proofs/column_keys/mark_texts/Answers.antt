use Rattle.std.proofs.Common.{◌<◌, ap, ◌∙◌, refl, length, Bool, List, [], ℕ, false, get_or, slice_index_or, if◌then◌else◌, arith}
use Rattle.values.specs.declared.value.Value.{Value}
use Rattle.values.specs.declared.value.Value.TheVariants as value
use Rattle.statistics.specs.ColumnKeys.{slot_at, text_number}
use Rattle.statistics.proofs.ColumnValues.{null_more, marked_more, length_more}
use Rattle.statistics.proofs.column_keys.mark_texts.Goals as goal
use Rattle.statistics.proofs.column_keys.mark_texts.Goals.{then-column-row, else-column-row}

pub loop-row-preserved : goal.loop-row-preserved
loop-row-preserved c =
    let place = c.args.place in
    let rows = c.args.rows.now in
    let row = c.loop-row.row in
    let slots = length c.args.marks.now in
    let low : row < length rows = omega (arith, c.len-row-end.ensures) in
    let text : List ℕ = slice_index_or c.args.column.texts.now row [] in
    let v : Value = value.Text text in
    let is = c.requires.texts.value row low in
    let before = c.loop-row.invariant in
    let few = before.2 in
    elim c.if-column-row.branch [
      | then-column-row w ↦
          let here = is ∙ ap (λ (b : Bool). if b then v else value.Null) w.if-column-row.true in
          let at = w.slot_of.ensures.slot ∙ ap (λ n. slot_at n w.text_number.result) c.loop-row.auto.marks ∙ ap (slot_at slots) (w.text_number.ensures ∙ ap text_number w.text.ensures) in (
            λ s. ap (λ (ms : List Bool). get_or ms s false) w.marks-is ∙ marked_more place rows row low slots w.slot_of.result v c.loop-row.marks here refl at w.slot_of.ensures.within before.0 s,
            w.values-is ∙ length_more place rows row low v c.loop-row.values here refl before.1,
            omega (arith, w.values-is, few),
          )
      | else-column-row w ↦
          let here = is ∙ ap (λ (b : Bool). if b then v else value.Null) w.if-column-row.false in
          let same = null_more place rows row low value.Null here refl in
          rw (same, w.marks-is, w.values-is) (before.0, before.1, omega (arith, few))
    ]
