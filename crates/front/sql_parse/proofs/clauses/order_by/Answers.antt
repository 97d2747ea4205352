use Rattle.std.proofs.lemmas.Result.{err_from_is_err_and}
use Rattle.sql_parse.specs.declared.token.Symbol.TheVariants as s
use Rattle.sql_parse.specs.declared.token.TokenKind.TheVariants as token
use Rattle.sql_parse.specs.Sql.{sample, a_key}
use Rattle.sql_parse.proofs.SqlLoops.{keys_list, list_less, list_on}
use Rattle.sql_parse.proofs.clauses.order_by.Goals as goal

pub keys-smaller : goal.keys-smaller
keys-smaller c = list_less c.args.end c.args.depth (sample (token.Symbol s.Comma)) a_key keys_list c.keys.rest.now c.in_ok-found.found c.in_ok-found.behind.now c.in-Some-accept.field-0-0.now c.in-Some-accept.next.now c.in_ok-found.ensures c.in-Some-accept.ensures.next

pub keys-preserved : goal.keys-preserved
keys-preserved c = rw c.in_ok-push.ensures.ok (list_on c.args.end c.args.depth (sample (token.Symbol s.Comma)) a_key keys_list c.keys.all c.keys.rest.now c.in_ok-found.found c.in_ok-found.behind.now c.in-Some-accept.field-0-0.now c.in-Some-accept.next.now _
    c.in_ok-found.ensures c.in-Some-accept.ensures.sees c.in-Some-accept.ensures.next c.keys.invariant)

pub returns-in_err-push : goal.returns-in_err-push
returns-in_err-push c =
    let p = err_from_is_err_and c.from_residual-in_err-push.result c.from_residual-in_err-push.ensures.1 in
    rw (p.1, p.2) tt
