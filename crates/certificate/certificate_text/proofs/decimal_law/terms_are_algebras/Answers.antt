use Rattle.certificate_text.proofs.TermParts.{algebras_text}
use Rattle.certificate_text.proofs.decimal_law.terms_are_algebras.Goals as goal

pub returns : goal.returns
returns c = algebras_text
