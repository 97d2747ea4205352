use Rattle.binder.proofs.BoundStatements.{statements_bound, statements_over, statements_wide}
use Rattle.sql_parse.proofs.PlainStatements.{statements_plain}
use Rattle.binder.proofs.laws.statements_are_bound.Goals as goal

pub returns-clause-plain : goal.returns-clause-plain
returns-clause-plain c = statements_plain

pub returns-clause-bound : goal.returns-clause-bound
returns-clause-bound c = statements_bound

pub returns-clause-over : goal.returns-clause-over
returns-clause-over c = statements_over

pub returns-clause-wide : goal.returns-clause-wide
returns-clause-wide c = statements_wide
