use Rattle.sql_parse.specs.declared.token.Symbol.TheVariants as s
use Rattle.sql_parse.specs.declared.token.TokenKind.TheVariants as token
use Rattle.sql_parse.specs.Sql.{sample, a_column}
use Rattle.sql_parse.proofs.SqlLoops.{columns_list, list_less, list_on}
use Rattle.sql_parse.proofs.reading.columns.Goals as goal

pub columns-smaller : goal.columns-smaller
columns-smaller c = list_less c.args.end c.args.depth (sample (token.Symbol s.Comma)) a_column columns_list c.columns.rest.now c.in_ok-found.found c.in_ok-found.behind.now c.in-Some.field-0-0.now c.in-Some.next.now c.in_ok-found.ensures c.in-Some.ensures.next

pub columns-preserved : goal.columns-preserved
columns-preserved c = rw c.in_ok-push.ensures.ok (list_on c.args.end c.args.depth (sample (token.Symbol s.Comma)) a_column columns_list c.columns.all c.columns.rest.now c.in_ok-found.found c.in_ok-found.behind.now c.in-Some.field-0-0.now c.in-Some.next.now _
    c.in_ok-found.ensures c.in-Some.ensures.sees c.in-Some.ensures.next c.columns.invariant)
