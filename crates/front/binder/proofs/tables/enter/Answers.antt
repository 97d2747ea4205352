use Rattle.std.proofs.lemmas.Result.{err_from_is_err_and}
use Rattle.binder.proofs.tables.enter.Goals as goal

pub returns-in_err-reference : goal.returns-in_err-reference
returns-in_err-reference c =
    let p = err_from_is_err_and c.from_residual.result c.from_residual.ensures.1 in
    rw (p.1, p.2) tt

pub returns-in_err-chain : goal.returns-in_err-chain
returns-in_err-chain c =
    let p = err_from_is_err_and c.from_residual-in_err-chain.result c.from_residual-in_err-chain.ensures.1 in
    rw (p.1, p.2) tt
