use Rattle.certificate_text.proofs.WideConditions.{conditions_same}
use Rattle.certificate_text.proofs.decimal_law.conditions_are_algebras.Goals as goal

pub returns : goal.returns
returns c = conditions_same
