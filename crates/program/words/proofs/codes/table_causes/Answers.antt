use Rattle.std.proofs.Common.{refl, arith}
use Rattle.store.specs.declared.fault.TableCause.TheVariants as reason
use Rattle.store.specs.declared.fault.FieldFault.TheVariants as field
use Rattle.words.proofs.codes.table_causes.Goals as goal

pub returns : goal.returns
returns c reason.OtherLength = (0, reason.OtherLength, omega arith, refl, refl)
returns c (reason.Field column field.NotText) = (1, reason.Field 0 field.NotText, omega arith, refl, refl)
returns c reason.OtherHeader = (2, reason.OtherHeader, omega arith, refl, refl)
returns c (reason.Field column field.NotNumber) = (3, reason.Field 0 field.NotNumber, omega arith, refl, refl)
returns c (reason.Field column field.BadEscape) = (4, reason.Field 0 field.BadEscape, omega arith, refl, refl)
returns c (reason.Field column field.NullValue) = (5, reason.Field 0 field.NullValue, omega arith, refl, refl)
returns c (reason.Repeated row) = (6, reason.Repeated 0, omega arith, refl, refl)
returns c reason.TooMany = (7, reason.TooMany, omega arith, refl, refl)
