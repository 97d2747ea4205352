use Rattle.binder.proofs.RulesStatements.{statements_bind}
use Rattle.binder.proofs.StatementAnswers.{statements_accepted, statements_refused}
use Rattle.binder.proofs.meaning.statements_have_meaning.Goals as goal

pub returns-clause-rules : goal.returns-clause-rules
returns-clause-rules c = statements_bind

pub returns-clause-accepted : goal.returns-clause-accepted
returns-clause-accepted c = statements_accepted

pub returns-clause-refused : goal.returns-clause-refused
returns-clause-refused c = statements_refused
