use Rattle.sql_parse.specs.declared.token.Keyword.TheVariants as k
use Rattle.sql_parse.specs.declared.token.TokenKind.TheVariants as token
use Rattle.sql_parse.specs.Sql.{sample, a_having_negation, a_having_conjunction}
use Rattle.sql_parse.proofs.SqlLoops.{having_negations_list, having_conjunctions_list, list_less, list_on}
use Rattle.sql_parse.proofs.having.+having.Goals as goal

pub conjunction-negations-smaller : goal.conjunction-negations-smaller
conjunction-negations-smaller t c = list_less c.args.end c.args.depth (sample (token.Keyword k.And)) a_having_negation having_negations_list c.negations.rest.now c.in_ok-found.found c.in_ok-found.behind.now c.in-Some.field-0-0.now c.in-Some.next.now c.in_ok-found.ensures c.in-Some.ensures.next

pub conjunction-negations-preserved : goal.conjunction-negations-preserved
conjunction-negations-preserved t c = rw c.in_ok-push.ensures.ok (list_on c.args.end c.args.depth (sample (token.Keyword k.And)) a_having_negation having_negations_list c.negations.all c.negations.rest.now c.in_ok-found.found c.in_ok-found.behind.now c.in-Some.field-0-0.now c.in-Some.next.now _
    c.in_ok-found.ensures c.in-Some.ensures.sees c.in-Some.ensures.next c.negations.invariant)

pub condition-conjunctions-smaller : goal.condition-conjunctions-smaller
condition-conjunctions-smaller t c = list_less c.args.end c.args.depth (sample (token.Keyword k.Or)) a_having_conjunction having_conjunctions_list c.conjunctions.rest.now c.in_ok-found.found c.in_ok-found.behind.now c.in-Some.field-0-0.now c.in-Some.next.now c.in_ok-found.ensures c.in-Some.ensures.next

pub condition-conjunctions-preserved : goal.condition-conjunctions-preserved
condition-conjunctions-preserved t c = rw c.in_ok-push.ensures.ok (list_on c.args.end c.args.depth (sample (token.Keyword k.Or)) a_having_conjunction having_conjunctions_list c.conjunctions.all c.conjunctions.rest.now c.in_ok-found.found c.in_ok-found.behind.now c.in-Some.field-0-0.now c.in-Some.next.now _
    c.in_ok-found.ensures c.in-Some.ensures.sees c.in-Some.ensures.next c.conjunctions.invariant)
