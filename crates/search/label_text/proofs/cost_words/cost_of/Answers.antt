use Rattle.std.proofs.Common.{sym, ◌∙◌}
use Rattle.certificate_text.proofs.NumberParts.{no_numeral}
use Rattle.label_text.proofs.CostWords.{cost_read}
use Rattle.label_text.proofs.cost_words.cost_of.Goals as goal

pub returns-then-not-is_numeral : goal.returns-then-not-is_numeral
returns-then-not-is_numeral c = no_numeral c.args.word.now (sym c.is_numeral.ensures ∙ c.if-not-is_numeral.true)

pub returns : goal.returns
returns c = rw c.ok.ensures.value (cost_read c.args.word.now c.parse.result (sym c.is_numeral.ensures ∙ c.if-not-is_numeral.false) c.parse.ensures.value.0)
