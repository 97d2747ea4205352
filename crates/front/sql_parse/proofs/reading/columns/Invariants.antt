use Rattle.std.proofs.Common.{◌≡◌, length, []}
use Rattle.sql_parse.specs.declared.token.Symbol.TheVariants as s
use Rattle.sql_parse.specs.declared.token.TokenKind.TheVariants as token
use Rattle.grammar.specs.Grammars.{separated}
use Rattle.grammar.specs.Readers.{with_front}
use Rattle.sql_parse.specs.Sql.{sample, a_column}
use Rattle.sql_parse.specs.StatementReading.{reads}
use Rattle.sql_parse.proofs.reading.columns.Given as goal

abbrev pub invariant-columns : goal.invariant-columns
invariant-columns l =
    with_front l.all (reads l.fn.end l.fn.depth (separated (sample (token.Symbol s.Comma)) a_column) l.rest)
    ≡ with_front [] (reads l.fn.end l.fn.depth (separated (sample (token.Symbol s.Comma)) a_column) l.initial.rest)

abbrev pub decreases-columns : goal.decreases-columns
decreases-columns l = length l.rest
