use Rattle.sql_parse.specs.declared.token.Keyword.TheVariants as k
use Rattle.sql_parse.specs.declared.token.Symbol.TheVariants as s
use Rattle.sql_parse.specs.declared.token.TokenKind.TheVariants as token
use Rattle.std.proofs.Common.{sym, ◌∙◌}
use Rattle.std.proofs.lemmas.Result.{err_from_is_err_and}
use Rattle.sql_parse.specs.Sql.{sample, a_negation, a_conjunction, a_join, a_chain}
use Rattle.sql_parse.proofs.SqlLoops.{negations_list, conjunctions_list, joins_loop, chains_list, less, turn_ok, list_less, list_on}
use Rattle.sql_parse.proofs.conditions.+conditions.Goals as goal

pub conjunction-negations-smaller : goal.conjunction-negations-smaller
conjunction-negations-smaller t c = list_less c.args.end c.args.depth (sample (token.Keyword k.And)) (a_negation c.args.clause) (negations_list c.args.clause) c.negations.rest.now c.in_ok-found.found c.in_ok-found.behind.now c.in-Some.field-0-0.now c.in-Some.next.now c.in_ok-found.ensures c.in-Some.ensures.next

pub conjunction-negations-preserved : goal.conjunction-negations-preserved
conjunction-negations-preserved t c = rw c.in_ok-push.ensures.ok (list_on c.args.end c.args.depth (sample (token.Keyword k.And)) (a_negation c.args.clause) (negations_list c.args.clause) c.negations.all c.negations.rest.now c.in_ok-found.found c.in_ok-found.behind.now c.in-Some.field-0-0.now c.in-Some.next.now _
    c.in_ok-found.ensures c.in-Some.ensures.sees c.in-Some.ensures.next c.negations.invariant)

pub condition-conjunctions-smaller : goal.condition-conjunctions-smaller
condition-conjunctions-smaller t c = list_less c.args.end c.args.depth (sample (token.Keyword k.Or)) (a_conjunction c.args.clause) (conjunctions_list c.args.clause) c.conjunctions.rest.now c.in_ok-found.found c.in_ok-found.behind.now c.in-Some.field-0-0.now c.in-Some.next.now c.in_ok-found.ensures c.in-Some.ensures.next

pub condition-conjunctions-preserved : goal.condition-conjunctions-preserved
condition-conjunctions-preserved t c = rw c.in_ok-push.ensures.ok (list_on c.args.end c.args.depth (sample (token.Keyword k.Or)) (a_conjunction c.args.clause) (conjunctions_list c.args.clause) c.conjunctions.all c.conjunctions.rest.now c.in_ok-found.found c.in_ok-found.behind.now c.in-Some.field-0-0.now c.in-Some.next.now _
    c.in_ok-found.ensures c.in-Some.ensures.sees c.in-Some.ensures.next c.conjunctions.invariant)

pub from-chains-smaller : goal.from-chains-smaller
from-chains-smaller t c = list_less c.args.end c.args.depth (sample (token.Symbol s.Comma)) a_chain chains_list c.chains.rest.now c.in_ok-found.found c.in_ok-found.behind.now c.in-Some.field-0-0.now c.in-Some.next.now c.in_ok-found.ensures c.in-Some.ensures.next

pub from-chains-preserved : goal.from-chains-preserved
from-chains-preserved t c = rw c.in_ok-push.ensures.ok (list_on c.args.end c.args.depth (sample (token.Symbol s.Comma)) a_chain chains_list c.chains.all c.chains.rest.now c.in_ok-found.found c.in_ok-found.behind.now c.in-Some.field-0-0.now c.in-Some.next.now _
    c.in_ok-found.ensures c.in-Some.ensures.sees c.in-Some.ensures.next c.chains.invariant)

pub chain-joins-smaller : goal.chain-joins-smaller
chain-joins-smaller t c = less c.args.end c.args.depth a_join joins_loop c.joins.rest.now c.in_ok-found.found c.in_ok-found.behind.now c.in_ok-found.ensures

pub chain-joins-preserved : goal.chain-joins-preserved
chain-joins-preserved t c = rw c.in_ok-push.ensures.ok (turn_ok c.args.end c.args.depth a_join joins_loop c.joins.joins c.joins.rest.now c.in_ok-found.found c.in_ok-found.behind.now _
    (sym c.sees_join.ensures ∙ c.joins-test.true) c.in_ok-found.ensures c.joins.invariant)

pub nested_select-returns-in_err-new : goal.nested_select-returns-in_err-new
nested_select-returns-in_err-new t c =
    let p = err_from_is_err_and c.from_residual-in_err-new.result c.from_residual-in_err-new.ensures.1 in
    rw (p.1, p.2) tt

pub missing-returns-in_err-new : goal.missing-returns-in_err-new
missing-returns-in_err-new t c =
    let p = err_from_is_err_and c.from_residual-in_err-new.result c.from_residual-in_err-new.ensures.1 in
    rw (p.1, p.2) tt

pub negation-returns-in_err-new : goal.negation-returns-in_err-new
negation-returns-in_err-new t c =
    let p = err_from_is_err_and c.from_residual-in_err-new.result c.from_residual-in_err-new.ensures.1 in
    rw (p.1, p.2) tt

pub conjunction-returns-in_err-push : goal.conjunction-returns-in_err-push
conjunction-returns-in_err-push t c =
    let p = err_from_is_err_and c.from_residual-in_err-push.result c.from_residual-in_err-push.ensures.1 in
    rw (p.1, p.2) tt

pub condition-returns-in_err-push : goal.condition-returns-in_err-push
condition-returns-in_err-push t c =
    let p = err_from_is_err_and c.from_residual-in_err-push.result c.from_residual-in_err-push.ensures.1 in
    rw (p.1, p.2) tt

pub filter-returns-in_err-new : goal.filter-returns-in_err-new
filter-returns-in_err-new t c =
    let p = err_from_is_err_and c.from_residual-in_err-new.result c.from_residual-in_err-new.ensures.1 in
    rw (p.1, p.2) tt

pub join-returns-in_err-new : goal.join-returns-in_err-new
join-returns-in_err-new t c =
    let p = err_from_is_err_and c.from_residual-in_err-new.result c.from_residual-in_err-new.ensures.1 in
    rw (p.1, p.2) tt

pub chain-returns-in_err-push : goal.chain-returns-in_err-push
chain-returns-in_err-push t c =
    let p = err_from_is_err_and c.from_residual-in_err-push.result c.from_residual-in_err-push.ensures.1 in
    rw (p.1, p.2) tt

pub from-returns-in_err-push : goal.from-returns-in_err-push
from-returns-in_err-push t c =
    let p = err_from_is_err_and c.from_residual-in_err-push.result c.from_residual-in_err-push.ensures.1 in
    rw (p.1, p.2) tt
