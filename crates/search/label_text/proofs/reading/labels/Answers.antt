use Rattle.std.proofs.Common.{◌<◌, ◌^◌, ◌++◌, flat_map, length, refl, sym, ap, arith}
use Rattle.certificate_text.proofs.Exits.{holds_of_fault}
use Rattle.certificate_read.specs.TextFaults.{IsNextFault, IsOther}
use Rattle.certificate_read.proofs.TextLists.{so_far_next, so_far_read, so_far_whole}
use Rattle.certificate_read.proofs.TextSteps.{from_as}
use Rattle.certificate_read.proofs.WordCalls.{fails}
use Rattle.label_text.specs.LabelReading.{IsFaultOfLabels, PassesLabels, label_wording}
use Rattle.label_text.specs.LabelText.{IsReadableLabel, label_text}
use Rattle.label_text.proofs.LabelLines.{label_more, labels_fault, labels_passed, no_labels}
use Rattle.label_text.proofs.reading.labels.Goals as goal

pub loop-done-init : goal.loop-done-init
loop-done-init c = ((λ ls rest h count e. (ls, (h, ap (λ labels. labels ++ ls) (sym c.new-labels.ensures), e, ap length c.new-labels.ensures))), no_labels c.count.new.text c.in_ok-count.count _ c.new-labels.ensures)

pub returns-in_err-next_label-clause-complete : goal.returns-in_err-next_label-clause-complete
returns-in_err-next_label-clause-complete c = λ ls rest h le e.
    let short : length ls < 2 ^ 32 = omega (arith, le) in
    let count = c.in_ok-count.ensures.complete (length ls) (flat_map label_text ls ++ rest) le short refl e in
    let below : c.loop-done._done < length ls = omega (arith, c.loop-done-test.true, count.0) in
    let next = so_far_next label_text IsReadableLabel ls rest c.loop-done.text.left.now c.loop-done.labels c.loop-done._done (c.loop-done.invariant.0 ls rest h (sym count.0) count.1) below in
    fails _ c.from_residual-in_err-next_label.result c.in_err-next_label.field-0.0 c.from_residual-in_err-next_label.ensures.1 (c.in_err-next_label.ensures.complete next.0 (flat_map label_text next.1 ++ rest) next.3 next.6)

pub loop-done-preserved : goal.loop-done-preserved
loop-done-preserved c = (
  (λ ls rest h count e.
      let so_far = c.loop-done.invariant.0 ls rest h count e in
      let below : c.loop-done._done < length ls = omega (arith, c.loop-done-test.true, count) in
      let next = so_far_next label_text IsReadableLabel ls rest c.loop-done.text.left.now c.loop-done.labels c.loop-done._done so_far below in
      let read = c.in_ok-next_label.ensures.complete next.0 (flat_map label_text next.1 ++ rest) next.3 next.6 in (
        next.1,
        so_far_read label_text IsReadableLabel ls rest c.loop-done.text.left.now c.loop-done.labels c.loop-done._done so_far below c.in_ok-next_label.field-0 c.next_label.new.text.left.now c.push.new.self read.0 read.1
            c.in_ok-push.ensures.ok,
      )),
  label_more c.count.new.text c.loop-done.text c.next_label.new.text c.loop-done.labels c.push.new.self c.in_ok-next_label.field-0 c.in_ok-count.count c.loop-done._done c.loop-done.invariant.1 c.loop-done-test.true c.in_ok-next_label.ensures.exact c.in_ok-push.ensures.ok,
)

pub returns-clause-complete : goal.returns-clause-complete
returns-clause-complete c = λ ls rest h le e.
    let short : length ls < 2 ^ 32 = omega (arith, le) in
    let count = c.in_ok-count.ensures.complete (length ls) (flat_map label_text ls ++ rest) le short refl e in
    let whole = so_far_whole label_text IsReadableLabel ls rest c.loop-done.text.left.now c.loop-done.labels c.loop-done._done (c.loop-done.invariant.0 ls rest h (sym count.0) count.1) (omega (arith, c.loop-done-test.false, count.0)) in
    (whole.0, whole.1)

pub returns-clause-exact : goal.returns-clause-exact
returns-clause-exact c =
    let count = c.in_ok-count.ensures.exact (omega arith) refl in
    labels_passed c.in_ok-count.count c.loop-done.labels c.args.text.now c.count.new.text c.loop-done.text count.0 count.1 c.loop-done.invariant.1 (omega (arith, c.loop-done-test.false, c.loop-done.invariant.1.2, c.loop-done.invariant.1.3))

pub returns-in_err-next_label-clause-exact : goal.returns-in_err-next_label-clause-exact
returns-in_err-next_label-clause-exact c =
    let count = c.in_ok-count.ensures.exact (omega arith) refl in
    holds_of_fault (PassesLabels c.args.text.now c.next_label.new.text) c.from_residual-in_err-next_label.result c.in_err-next_label.field-0.0 c.from_residual-in_err-next_label.ensures.1
    (from_as (IsNextFault (IsOther label_wording)) IsFaultOfLabels c.args.text.now c.loop-done.text c.in_err-next_label.field-0.0
    (λ r fault. labels_fault c.in_ok-count.count c.loop-done.labels c.args.text.now c.count.new.text c.loop-done.text r count.0 count.1 c.loop-done.invariant.1 (omega (arith, c.loop-done-test.true, c.loop-done.invariant.1.2)) fault) c.in_err-next_label.ensures.exact)
