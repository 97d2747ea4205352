use Rattle.std.proofs.Common.{sym, ◌∙◌}
use Rattle.certificate_text.proofs.NumberParts.{numeral_read, no_numeral}
use Rattle.certificate_text.proofs.numbers.number.Goals as goal

pub returns-then-not-is_numeral : goal.returns-then-not-is_numeral
returns-then-not-is_numeral c = no_numeral c.args.word.now (sym c.is_numeral.ensures ∙ c.if-not-is_numeral.true)

pub returns : goal.returns
returns c = rw c.ok.ensures.value (numeral_read c.args.word.now c.parse.result (sym c.is_numeral.ensures ∙ c.if-not-is_numeral.false) c.parse.ensures.value.0)
