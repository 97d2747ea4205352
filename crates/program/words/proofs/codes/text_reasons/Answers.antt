use Rattle.std.proofs.Common.{refl, arith}
use Rattle.certificate_text.specs.declared.fault.TextReason.TheVariants as reason
use Rattle.words.proofs.codes.text_reasons.Goals as goal

pub returns : goal.returns
returns c reason.OtherVersion = (0, reason.OtherVersion, omega arith, refl, refl)
returns c reason.OtherForm = (1, reason.OtherForm, omega arith, refl, refl)
returns c reason.OutOfRange = (2, reason.OutOfRange, omega arith, refl, refl)
returns c reason.BrokenOff = (3, reason.BrokenOff, omega arith, refl, refl)
returns c reason.OverLimit = (4, reason.OverLimit, omega arith, refl, refl)
