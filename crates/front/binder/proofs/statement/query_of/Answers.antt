use Rattle.std.proofs.lemmas.Result.{err_from_is_err_and}
use Rattle.binder.proofs.statement.query_of.Goals as goal

pub returns-in_err-extent : goal.returns-in_err-extent
returns-in_err-extent c =
    let p = err_from_is_err_and c.from_residual.result c.from_residual.ensures.1 in
    rw (p.1, p.2) tt

pub returns-in_err-names : goal.returns-in_err-names
returns-in_err-names c =
    let p = err_from_is_err_and c.from_residual-in_err-names.result c.from_residual-in_err-names.ensures.1 in
    rw (p.1, p.2) tt
