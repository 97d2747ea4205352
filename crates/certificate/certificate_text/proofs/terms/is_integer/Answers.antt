use Rattle.std.proofs.Common.{◌∙◌, sym, arith}
use Rattle.std.proofs.lemmas.Str.Pattern.{strip_prefix_char}
use Rattle.certificate_text.proofs.TermParts.{minus_tested, minus_untested, plain_tested}
use Rattle.certificate_text.proofs.terms.is_integer.Goals as goal

pub returns-then-is_numeral : goal.returns-then-is_numeral
returns-then-is_numeral c = minus_tested c.args.word.now c.in-Some.digits.now c.ne.result (rw c.in-Some.is at (strip_prefix_char 45 c.args.word.now c.strip_prefix.result c.strip_prefix.ensures.cases (omega arith))) (sym c.is_numeral.ensures ∙ c.if-is_numeral.true) c.ne.ensures

pub returns-else-is_numeral : goal.returns-else-is_numeral
returns-else-is_numeral c = minus_untested c.args.word.now c.in-Some.digits.now c.is_numeral.result (rw c.in-Some.is at (strip_prefix_char 45 c.args.word.now c.strip_prefix.result c.strip_prefix.ensures.cases (omega arith))) c.is_numeral.ensures c.if-is_numeral.false

pub returns-in-None : goal.returns-in-None
returns-in-None c = plain_tested c.args.word.now c.is_numeral-in-None.result (rw c.in-None.is at (strip_prefix_char 45 c.args.word.now c.strip_prefix.result c.strip_prefix.ensures.cases (omega arith))) c.is_numeral-in-None.ensures
