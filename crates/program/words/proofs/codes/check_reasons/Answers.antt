use Rattle.std.proofs.Common.{refl, arith}
use Rattle.certificate.specs.declared.certificate.CheckReason.TheVariants as reason
use Rattle.words.proofs.codes.check_reasons.Goals as goal

pub returns : goal.returns
returns c reason.UnknownLine = (0, reason.UnknownLine, omega arith, refl, refl)
returns c reason.OtherForm = (1, reason.OtherForm, omega arith, refl, refl)
returns c reason.OtherLine = (2, reason.OtherLine, omega arith, refl, refl)
returns c reason.IllFormed = (3, reason.IllFormed, omega arith, refl, refl)
returns c (reason.FailedCondition rule) = (4, reason.FailedFact, omega arith, refl, refl)
returns c reason.FailedFact = (4, reason.FailedFact, omega arith, refl, refl)
returns c reason.OtherOperator = (5, reason.OtherOperator, omega arith, refl, refl)
returns c reason.UnsortedInput = (6, reason.UnsortedInput, omega arith, refl, refl)
returns c reason.UnsortedAnswer = (7, reason.UnsortedAnswer, omega arith, refl, refl)
