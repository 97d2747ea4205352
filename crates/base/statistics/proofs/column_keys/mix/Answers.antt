use Rattle.std.proofs.Common.{refl}
use Rattle.statistics.specs.ColumnKeys.{mix}
use Rattle.statistics.proofs.column_keys.mix.Goals as goal

pub returns-clause-mixed : goal.returns-clause-mixed
unfolding mix
returns-clause-mixed c = refl
