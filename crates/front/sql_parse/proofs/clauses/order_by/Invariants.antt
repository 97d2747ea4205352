use Rattle.std.proofs.Common.{◌≡◌, length, []}
use Rattle.sql_parse.specs.declared.token.Symbol.TheVariants as s
use Rattle.sql_parse.specs.declared.token.TokenKind.TheVariants as token
use Rattle.grammar.specs.Grammars.{separated}
use Rattle.grammar.specs.Readers.{with_front}
use Rattle.sql_parse.specs.Sql.{sample, a_key}
use Rattle.sql_parse.specs.StatementReading.{reads}
use Rattle.sql_parse.proofs.clauses.order_by.Given as goal

abbrev pub invariant-keys : goal.invariant-keys
invariant-keys l =
    with_front l.all (reads l.fn.end l.fn.depth (separated (sample (token.Symbol s.Comma)) a_key) l.rest)
    ≡ with_front [] (reads l.fn.end l.fn.depth (separated (sample (token.Symbol s.Comma)) a_key) l.initial.rest)

abbrev pub decreases-keys : goal.decreases-keys
decreases-keys l = length l.rest
