use Rattle.std.proofs.Common.{refl, arith}
use Rattle.schema.specs.declared.fault.SchemaRefusal.TheVariants as reason
use Rattle.words.proofs.codes.schema_refusals.Goals as goal

pub returns : goal.returns
returns c reason.NotJson = (0, reason.NotJson, omega arith, refl, refl)
returns c reason.Shape = (1, reason.Shape, omega arith, refl, refl)
returns c reason.Repeated = (2, reason.Repeated, omega arith, refl, refl)
returns c reason.UnknownColumn = (3, reason.UnknownColumn, omega arith, refl, refl)
returns c reason.TooMany = (4, reason.TooMany, omega arith, refl, refl)
