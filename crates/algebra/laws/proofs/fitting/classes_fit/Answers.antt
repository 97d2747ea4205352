use Rattle.std.proofs.Common.{}
use Rattle.laws.proofs.Expressions.{classes_are_fitting}
use Rattle.laws.proofs.fitting.classes_fit.Goals as goal

pub returns : goal.returns
returns c = classes_are_fitting
