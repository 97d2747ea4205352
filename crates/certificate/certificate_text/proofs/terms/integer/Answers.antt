use Rattle.certificate_text.proofs.TermParts.{integer_read}
use Rattle.certificate_text.proofs.terms.integer.Goals as goal

pub returns-then-not-is_integer : goal.returns-then-not-is_integer
returns-then-not-is_integer c = rw c.if-not-is_integer.true at c.is_integer.ensures

pub returns : goal.returns
returns c =
    let told = rw c.if-not-is_integer.false at c.is_integer.ensures in
    rw c.ok.ensures.value (integer_read told.0 c.args.word.now c.parse.result told.1 c.parse.ensures.value.0)
