use Rattle.std.proofs.lemmas.Result.{err_from_is_err_and}
use Rattle.sql_parse.proofs.conditions.null_test.Goals as goal

pub returns-in_err-test : goal.returns-in_err-test
returns-in_err-test c =
    let p = err_from_is_err_and c.from_residual-in_err-test.result c.from_residual-in_err-test.ensures.1 in
    rw (p.1, p.2) tt
