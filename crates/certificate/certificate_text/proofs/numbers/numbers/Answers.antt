use Rattle.std.proofs.Common.{◌∙◌, ap}
use Rattle.certificate_text.proofs.NumberLists.{texts, list_read, no_dash}
use Rattle.certificate_text.proofs.numbers.numbers.Goals as goal

pub returns : goal.returns
returns c =
    list_read c.args.list.now (texts c.as_slice.result.now) (λ v. v.items) c.each_number.result (no_dash c.args.list.now c.eq.result c.if-eq.false c.eq.ensures)
    (ap texts c.as_slice.ensures.value ∙ c.in_ok-parts.ensures) c.each_number.ensures
