use Rattle.std.proofs.Common.{◌≡◌, ap, ◌∙◌, length, map, false, arith, slice_index_or, nat_eq}
use Rattle.std.proofs.lemmas.List.{with_items_is, length-replicate}
use Rattle.std.specs.List.{range_with_len}
use Rattle.std.specs.Set.{is_member}
use Rattle.statistics.specs.Digits as spec
use Rattle.statistics.proofs.KeySlots.{slot_within}
use Rattle.statistics.proofs.Marks.{no_marks, mark_more}
use Rattle.statistics.proofs.digits.marks_of.Goals as goal

pub loop-row-init : goal.loop-row-init
loop-row-init c s = ap (λ ms. slice_index_or ms s false) (c.as_mut_slice-slots.ensures.value ∙ c.in_ok-marks.ensures.items_if_clones_equal (λ y e. e)) ∙ no_marks c.args.digits.now.slots s

pub slot_in-requires-clause-digits : goal.slot_in-requires-clause-digits
slot_in-requires-clause-digits c = rw c.as_slice-columns.ensures.value (c.requires.digits c.loop-row.row (omega arith))

pub bounds-slots-slot_in : goal.bounds-slots-slot_in
bounds-slots-slot_in c =
    let low = slot_within c.loop-row.row c.args.digits.now.columns.items (c.requires.digits c.loop-row.row (omega arith)) in
    let size : length c.in_ok-marks.marks.items ≡ c.args.digits.now.slots = ap length (c.in_ok-marks.ensures.items_if_clones_equal (λ y e. e)) ∙ length-replicate c.args.digits.now.slots false in
    rw (c.slot_in.ensures, c.loop-row.auto.slots, c.as_mut_slice-slots.ensures.value, size, c.requires.slots, c.as_slice-columns.ensures.value) low

pub loop-row-preserved : goal.loop-row-preserved
loop-row-preserved c = mark_more (λ row. spec.slot_in row c.as_slice-columns.result.now) c.loop-row.slots c.loop-row.row c.slot_in.result (bounds-slots-slot_in c) c.slot_in.ensures c.loop-row.invariant

pub returns : goal.returns
returns c s =
    let size : length c.loop-row.slots ≡ length c.in_ok-marks.marks.items = c.loop-row.auto.slots ∙ ap length c.as_mut_slice-slots.ensures.value in
    let done : c.loop-row.row ≡ c.args.rows = omega arith in
    ap (λ ms. slice_index_or ms s false) (with_items_is c.in_ok-marks.marks c.loop-row.slots (omega (arith, size, c.in_ok-marks.marks.ok))) ∙ c.loop-row.invariant s
    ∙ ap (λ cs. is_member nat_eq (map (λ row. spec.slot_in row cs) (range_with_len 0 c.loop-row.row)) s) c.as_slice-columns.ensures.value
    ∙ ap (λ n. is_member nat_eq (map (λ row. spec.slot_in row c.args.digits.now.columns.items) (range_with_len 0 n)) s) done
