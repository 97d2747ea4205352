use Rattle.query.proofs.Unique.{answers_by_laws}
use Rattle.query.proofs.laws.answers_are_by_laws.Goals as goal

pub returns : goal.returns
returns c = answers_by_laws
