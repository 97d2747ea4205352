use Rattle.std.proofs.Common.{◌∙◌, ap, codes}
use Rattle.certificate_text.proofs.NumberLists.{texts}
use Rattle.certificate_text.proofs.TermParts.{no_text}
use Rattle.certificate_read.proofs.KeyTexts.{keys_read}
use Rattle.certificate_read.proofs.sort_keys.keys_of.Goals as goal

pub returns : goal.returns
returns c =
    keys_read c.args.list.now (texts c.as_slice.result.now) (λ keys. keys) c.each_key.result (no_text c.args.list.now (codes "-") c.eq.result c.if-eq.false c.eq.ensures)
    (ap texts c.as_slice.ensures.value ∙ c.in_ok-parts.ensures) c.each_key.ensures
