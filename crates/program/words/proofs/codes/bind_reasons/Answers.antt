use Rattle.std.proofs.Common.{refl, arith}
use Rattle.binder.specs.declared.fault.BindReason.TheVariants as reason
use Rattle.words.proofs.codes.bind_reasons.Goals as goal

pub returns : goal.returns
returns c reason.UnknownTable = (0, reason.UnknownTable, omega arith, refl, refl)
returns c reason.UnknownColumn = (1, reason.UnknownColumn, omega arith, refl, refl)
returns c reason.AmbiguousName = (2, reason.AmbiguousName, omega arith, refl, refl)
returns c reason.RepeatedName = (3, reason.RepeatedName, omega arith, refl, refl)
returns c reason.MixedKinds = (4, reason.MixedKinds, omega arith, refl, refl)
returns c reason.UngroupedColumn = (5, reason.UngroupedColumn, omega arith, refl, refl)
returns c reason.SumOfText = (6, reason.SumOfText, omega arith, refl, refl)
returns c reason.NotOneColumn = (7, reason.NotOneColumn, omega arith, refl, refl)
returns c reason.NoOutputColumn = (8, reason.NoOutputColumn, omega arith, refl, refl)
returns c reason.TooLarge = (9, reason.TooLarge, omega arith, refl, refl)
returns c reason.OuterAggregate = (10, reason.OuterAggregate, omega arith, refl, refl)
