use Rattle.std.proofs.Common.{◌^◌, refl, ap, sym, ◌∙◌, pos, [], arith}
use Rattle.statistics.specs.declared.digits.DigitColumn.{DigitColumn}
use Rattle.std.proofs.lemmas.List.{take_all}
use Rattle.values.proofs.Lists.{all_at}
use Rattle.statistics.specs.Digits as spec
use Rattle.statistics.proofs.KeySlots.{slot_more, slot_step}
use Rattle.statistics.proofs.digits.slot_in.Goals as goal

abbrev none : DigitColumn
none = record { column = record { known = record { ref_ptr = (0, 0); now = [] }; numbers = record { ref_ptr = (0, 0); now = [] } }; least = pos 0; base = 0 }

pub digit_in-requires : goal.digit_in-requires
digit_in-requires c = all_at _ c.args.columns.now c.loop-column.column-index _ (omega arith) c.requires.digits

pub overflow_mul-slot : goal.overflow_mul-slot
overflow_mul-slot c =
    let fits = slot_step c.args.row c.args.columns.now c.loop-column.column-index (2 ^ 64) c.loop-column.slot _ none (omega arith) c.requires.digits c.requires.slots c.loop-column.invariant refl in
    omega (arith, fits)

pub overflow_add-slot : goal.overflow_add-slot
overflow_add-slot c =
    let fits = slot_step c.args.row c.args.columns.now c.loop-column.column-index (2 ^ 64) c.loop-column.slot c.digit_in.result none (omega arith) c.requires.digits c.requires.slots c.loop-column.invariant c.digit_in.ensures in
    omega (arith, fits)

pub loop-column-preserved : goal.loop-column-preserved
loop-column-preserved c =
    let next = slot_more c.args.row c.args.columns.now c.loop-column.column-index _ (omega arith) in
    rw (c.loop-column.invariant, c.digit_in.ensures) (sym next)

pub returns : goal.returns
returns c = c.loop-column.invariant ∙ ap (spec.slot_in c.args.row) (take_all c.loop-column.column-index c.args.columns.now (omega arith))
