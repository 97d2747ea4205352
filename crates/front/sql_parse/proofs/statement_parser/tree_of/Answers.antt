use Rattle.std.proofs.Common.{◌≤◌, length, arith}
use Rattle.sql_parse.specs.declared.statement_parser.TheConstants.{MAX_TEXT}
use Rattle.sql_parse.proofs.SqlTexts.{statement_found, statement_only, statement_refused}
use Rattle.sql_parse.proofs.statement_parser.tree_of.Goals as goal

pub returns-clause-found : goal.returns-clause-found
returns-clause-found c =
    let short : length c.args.text.now ≤ MAX_TEXT = omega arith in
    statement_found c.args.text.now c.in_ok-tokens.tokens.items c.whole_statement.result short c.utf8.text c.in_ok-tokens.ensures.found (rw (c.as_slice.ensures.value, c.most_open-depth.ensures) at c.whole_statement.ensures)

pub returns-clause-only : goal.returns-clause-only
returns-clause-only c =
    statement_only c.args.text.now c.in_ok-tokens.tokens.items c.whole_statement.result (λ us are. let e = c.in_ok-tokens.ensures.only us are in cc) (rw (c.as_slice.ensures.value, c.most_open-depth.ensures) at c.whole_statement.ensures)

pub returns-clause-refused : goal.returns-clause-refused
returns-clause-refused c =
    let short : length c.args.text.now ≤ MAX_TEXT = omega arith in
    statement_refused c.args.text.now c.in_ok-tokens.tokens.items c.whole_statement.result short c.utf8.text c.in_ok-tokens.ensures.found (rw (c.as_slice.ensures.value, c.most_open-depth.ensures) at c.whole_statement.ensures)
