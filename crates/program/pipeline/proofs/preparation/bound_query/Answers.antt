use Rattle.std.proofs.Common.{sym, subst}
use Rattle.pipeline.specs.EndToEnd.{IsNoQuery}
use Rattle.pipeline.proofs.Prepared.{scope_refused}
use Rattle.pipeline.proofs.preparation.bound_query.Goals as goal

pub returns-clause-fails : goal.returns-clause-fails
returns-clause-fails c =
    subst (IsNoQuery c.args.text.now c.args.schema.now) (sym c.from.ensures)
    (scope_refused c.args.text.now c.args.schema.now c.in_ok-statement.statement c.in-Err.fault c.in_ok-statement.ensures.found c.in-Err.ensures.exact)
