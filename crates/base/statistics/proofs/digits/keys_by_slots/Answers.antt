use Rattle.std.proofs.Common.{◌≡◌, subst, Option, IfSome}
use Rattle.statistics.specs.declared.digits.Digits.{Digits}
use Rattle.statistics.specs.Digits.{ColumnsOf, slots_of, AreMarked}
use Rattle.statistics.proofs.KeySlots.{all_digits}
use Rattle.statistics.proofs.Marks.{marked_keys}
use Rattle.statistics.proofs.digits.keys_by_slots.Goals as goal

pub marks_of-requires-clause-digits : goal.marks_of-requires-clause-digits
marks_of-requires-clause-digits c row low =
    let found = subst (λ (o : Option Digits). IfSome o (λ d. ColumnsOf c.args.rows.now c.args.places.now d.columns.items × (d.slots ≡ slots_of d.columns.items))) c.in-Some.is c.in_ok-digits.ensures in
    all_digits c.args.rows.now c.args.places.now c.in-Some.digits.columns.items row found.0 (rw c.len-2.ensures at low)

pub returns : goal.returns
returns c =
    let found = subst (λ (o : Option Digits). IfSome o (λ d. ColumnsOf c.args.rows.now c.args.places.now d.columns.items × (d.slots ≡ slots_of d.columns.items))) c.in-Some.is c.in_ok-digits.ensures in
    rw (c.count_marks.ensures, c.as_slice.ensures.value) (marked_keys c.args.rows.now c.args.places.now c.in-Some.digits.columns.items c.in_ok-marks.marks.items found.0
    (subst (λ n. AreMarked c.in-Some.digits.columns.items n c.in_ok-marks.marks.items) c.len-2.ensures c.in_ok-marks.ensures))
