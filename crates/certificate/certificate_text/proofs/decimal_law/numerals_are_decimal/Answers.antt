use Rattle.certificate_text.proofs.DecimalNumerals.{numeral-decimal}
use Rattle.certificate_text.proofs.decimal_law.numerals_are_decimal.Goals as goal

pub returns : goal.returns
returns c = numeral-decimal
