use Rattle.std.proofs.Common.{refl, arith}
use Rattle.sql_parse.specs.declared.fault.ParseReason.TheVariants as reason
use Rattle.words.proofs.codes.parse_reasons.Goals as goal

pub returns : goal.returns
returns c reason.NoToken = (0, reason.NoToken, omega arith, refl, refl)
returns c reason.OpenText = (1, reason.OpenText, omega arith, refl, refl)
returns c reason.NumberRange = (2, reason.NumberRange, omega arith, refl, refl)
returns c reason.Unexpected = (3, reason.Unexpected, omega arith, refl, refl)
returns c reason.TooDeep = (4, reason.TooDeep, omega arith, refl, refl)
returns c reason.TooLong = (5, reason.TooLong, omega arith, refl, refl)
