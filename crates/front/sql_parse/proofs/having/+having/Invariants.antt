use Rattle.std.proofs.Common.{◌≡◌, ◌+◌, ◌*◌, length, []}
use Rattle.sql_parse.specs.declared.token.Keyword.TheVariants as k
use Rattle.sql_parse.specs.declared.token.TokenKind.TheVariants as token
use Rattle.grammar.specs.Grammars.{separated}
use Rattle.grammar.specs.Readers.{with_front}
use Rattle.sql_parse.specs.Sql.{sample, a_having_negation, a_having_conjunction}
use Rattle.sql_parse.specs.StatementReading.{reads}
use Rattle.sql_parse.proofs.having.+having.Given as goal

abbrev pub decreases-nested_condition : goal.decreases-nested_condition
decreases-nested_condition l = 16 * l.depth + 1

abbrev pub decreases-primary : goal.decreases-primary
decreases-primary l = 16 * l.depth + 2

abbrev pub decreases-negation : goal.decreases-negation
decreases-negation l = 16 * l.depth + 3

abbrev pub decreases-conjunction : goal.decreases-conjunction
decreases-conjunction l = 16 * l.depth + 5

abbrev pub decreases-condition : goal.decreases-condition
decreases-condition l = 16 * l.depth + 8

abbrev pub invariant-conjunction-negations : goal.invariant-conjunction-negations
invariant-conjunction-negations l =
    with_front l.all (reads l.fn.end l.fn.depth (separated (sample (token.Keyword k.And)) a_having_negation) l.rest)
    ≡ with_front [] (reads l.fn.end l.fn.depth (separated (sample (token.Keyword k.And)) a_having_negation) l.initial.rest)

abbrev pub decreases-conjunction-negations : goal.decreases-conjunction-negations
decreases-conjunction-negations l = length l.rest

abbrev pub invariant-condition-conjunctions : goal.invariant-condition-conjunctions
invariant-condition-conjunctions l =
    with_front l.all (reads l.fn.end l.fn.depth (separated (sample (token.Keyword k.Or)) a_having_conjunction) l.rest)
    ≡ with_front [] (reads l.fn.end l.fn.depth (separated (sample (token.Keyword k.Or)) a_having_conjunction) l.initial.rest)

abbrev pub decreases-condition-conjunctions : goal.decreases-condition-conjunctions
decreases-condition-conjunctions l = length l.rest
