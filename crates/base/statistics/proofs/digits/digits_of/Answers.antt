use Rattle.std.proofs.Common.{ap, sym, ◌∙◌, ◌*◌, arith, subst}
use Rattle.std.proofs.lemmas.List.{take_all}
use Rattle.statistics.specs.Digits.{ColumnsOf, slots_of}
use Rattle.statistics.proofs.KeySlots.{columns_more, slots_more}
use Rattle.statistics.proofs.digits.digits_of.Goals as goal

pub loop-place-preserved : goal.loop-place-preserved
loop-place-preserved c = (
  columns_more c.args.rows.now c.args.places.now c.loop-place.columns.items _ c.loop-place.place-index c.in-Some.numbers c.in-Some-digit_column.column (omega arith) c.loop-place.invariant.0 c.in-Some.ensures
      c.in-Some-digit_column.ensures c.in_ok-push.ensures.items,
  c.in-Some-checked_mul.ensures.1 ∙ ap (λ n. n * c.in-Some-digit_column.column.base) c.loop-place.invariant.1 ∙ sym (slots_more c.loop-place.columns.items c.in-Some-digit_column.column) ∙ ap slots_of (sym c.in_ok-push.ensures.items),
)

pub returns : goal.returns
returns c = (subst (λ ps. ColumnsOf c.args.rows.now ps c.loop-place.columns.items) (take_all c.loop-place.place-index c.args.places.now (omega arith)) c.loop-place.invariant.0, c.loop-place.invariant.1)
