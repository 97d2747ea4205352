use Rattle.binder.proofs.NameMeanings.{names_mean, names_fail}
use Rattle.binder.proofs.meaning.names_are_resolved.Goals as goal

pub returns-clause-meaning : goal.returns-clause-meaning
returns-clause-meaning c = names_mean

pub returns-clause-fault : goal.returns-clause-fault
returns-clause-fault c = names_fail
