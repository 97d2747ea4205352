use Rattle.query.proofs.Widths.{satisfying_fits}
use Rattle.query.proofs.laws.satisfying_databases_fit.Goals as goal

pub returns : goal.returns
returns c = satisfying_fits
