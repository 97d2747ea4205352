use Rattle.query.proofs.Unique.{laws_determine}
use Rattle.query.proofs.laws.laws_determine_meaning.Goals as goal

pub returns : goal.returns
returns c = laws_determine
