use Rattle.std.proofs.Common.{◌≡◌, length, []}
use Rattle.sql_parse.specs.declared.token.Symbol.TheVariants as s
use Rattle.sql_parse.specs.declared.token.TokenKind.TheVariants as token
use Rattle.grammar.specs.Grammars.{separated}
use Rattle.grammar.specs.Readers.{with_front}
use Rattle.sql_parse.specs.Sql.{sample, an_item}
use Rattle.sql_parse.specs.StatementReading.{reads}
use Rattle.sql_parse.proofs.clauses.list.Given as goal

abbrev pub invariant-items : goal.invariant-items
invariant-items l =
    with_front l.all (reads l.fn.end l.fn.depth (separated (sample (token.Symbol s.Comma)) an_item) l.rest)
    ≡ with_front [] (reads l.fn.end l.fn.depth (separated (sample (token.Symbol s.Comma)) an_item) l.initial.rest)

abbrev pub decreases-items : goal.decreases-items
decreases-items l = length l.rest
