use Rattle.certificate_text.proofs.AggregateParts.{aggregation_cut}
use Rattle.certificate_text.proofs.aggregates.column_word.Goals as goal

pub returns-in-Some : goal.returns-in-Some
returns-in-Some c = λ a e. (rw c.in-Some.is at (aggregation_cut a c.args.part.now c.split_once.result c.split_once.ensures.cases e)).0

pub returns-in-None : goal.returns-in-None
returns-in-None c = λ a e. absurd (rw c.in-None.is at (aggregation_cut a c.args.part.now c.split_once.result c.split_once.ensures.cases e))
