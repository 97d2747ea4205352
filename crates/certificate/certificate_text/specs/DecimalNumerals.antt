-- Numbers and terms as `certificate_text` and `algebra` spell them.
use Rattle.std.specs.Prelude.{◌≡◌, ℕ, ◌<◌, ◌^◌, decimal}
use Rattle.algebra.specs.declared.condition.Term.{Term}
use Rattle.algebra.specs.ConjunctOrder.{term_text}
use Rattle.certificate_text.specs.Numerals.{numeral}
use Rattle.certificate_text.specs.PartTexts.{part_term_text}
use Rattle.certificate_text.specs.Spelled.{IsReadableTerm}

-- up to 64 bits, a number is spelled as std spells it
abbrev pub NumeralsAreDecimal : Type 0
NumeralsAreDecimal = (n : ℕ) → n < 2 ^ 64 → numeral n ≡ decimal n

-- within the ranges of its numbers, a term is spelled as algebra spells it
abbrev pub TermsAreAlgebras : Type 0
TermsAreAlgebras = (t : Term) → IsReadableTerm t → part_term_text t ≡ term_text t
