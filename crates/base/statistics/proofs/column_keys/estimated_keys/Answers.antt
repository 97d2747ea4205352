use Rattle.std.proofs.Common.{◌≡◌, ap, ◌∙◌, subst, ℕ, Bool, List, length, max, arith}
use Rattle.std.specs.List.{count_by}
use Rattle.std.proofs.lemmas.List.{with_items_is, length-replicate}
use Rattle.statistics.specs.ColumnKeys.{AreMarked, values_in}
use Rattle.statistics.proofs.ColumnValues.{estimated}
use Rattle.statistics.proofs.column_keys.estimated_keys.Goals as goal

pub returns : goal.returns
returns c =
    let marks = c.mark_values-values.new.marks in
    let lent : length c.as_mut_slice.result.now ≡ length c.in_ok-marks.marks.items = ap length c.as_mut_slice.ensures.value in
    let size : length c.in_ok-marks.marks.items ≡ c.max-slots.result = ap length (c.in_ok-marks.ensures.items_if_clones_equal (λ y e. e)) ∙ length-replicate c.max-slots.result _ in
    let kept : length marks ≡ length c.as_mut_slice.result.now = c.mark_values-values.auto.marks in
    let final : c.as_slice.result.now ≡ marks = c.as_slice.ensures.value ∙ with_items_is c.in_ok-marks.marks marks (omega (arith, kept, lent, c.in_ok-marks.marks.ok)) in
    let are = subst (λ (n : ℕ). AreMarked n (values_in c.args.place c.args.rows.now) marks) (lent ∙ size) c.mark_values-values.ensures.marks in
    c.estimate.ensures
    ∙ estimated c.args.place c.args.rows.now c.max-slots.result c.count_marks-marked.result c.mark_values-values.result marks (c.max-slots.ensures ∙ ap (λ n. max n 1) c.len.ensures) are
    (c.count_marks-marked.ensures ∙ ap (λ (ms : List Bool). count_by (λ m. m) ms) final) c.mark_values-values.ensures.values
