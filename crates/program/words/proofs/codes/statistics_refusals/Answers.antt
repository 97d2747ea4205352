use Rattle.std.proofs.Common.{refl, arith}
use Rattle.statistics.specs.declared.fault.StatisticsRefusal.TheVariants as reason
use Rattle.words.proofs.codes.statistics_refusals.Goals as goal

pub returns : goal.returns
returns c reason.NotJson = (0, reason.NotJson, omega arith, refl, refl)
returns c reason.Shape = (1, reason.Shape, omega arith, refl, refl)
