use Rattle.query.proofs.Obeys.{meaning_obeys}
use Rattle.query.proofs.laws.meaning_obeys_laws.Goals as goal

pub returns : goal.returns
returns c = meaning_obeys
