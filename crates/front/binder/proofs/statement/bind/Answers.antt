use Rattle.binder.proofs.BoundStatements.{statements_bound, statements_over}
use Rattle.binder.proofs.statement.bind.Goals as goal

pub new-requires : goal.new-requires
new-requires c = statements_bound c.args.schema.now c.args.statement.now c.in_ok-query.query c.tree.ensures.plain (rw c.tree.ensures.tree at c.in_ok-query.ensures)

pub returns-clause-over : goal.returns-clause-over
returns-clause-over c = rw c.new.ensures (statements_over c.args.schema.now c.args.statement.now c.in_ok-query.query (rw c.tree.ensures.tree at c.in_ok-query.ensures))
