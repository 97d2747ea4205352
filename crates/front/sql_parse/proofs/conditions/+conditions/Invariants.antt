use Rattle.std.proofs.Common.{◌≡◌, ◌+◌, ◌*◌, length, []}
use Rattle.sql_parse.specs.declared.token.Keyword.TheVariants as k
use Rattle.sql_parse.specs.declared.token.Symbol.TheVariants as s
use Rattle.sql_parse.specs.declared.token.TokenKind.TheVariants as token
use Rattle.grammar.specs.Grammars.{many, separated}
use Rattle.grammar.specs.Readers.{with_front}
use Rattle.sql_parse.specs.Sql.{sample, a_negation, a_conjunction, a_join, a_chain}
use Rattle.sql_parse.specs.StatementReading.{reads}
use Rattle.sql_parse.proofs.conditions.+conditions.Given as goal

abbrev pub decreases-nested_condition : goal.decreases-nested_condition
decreases-nested_condition l = 32 * l.depth + 1

abbrev pub decreases-nested_select : goal.decreases-nested_select
decreases-nested_select l = 32 * l.depth + 1

abbrev pub decreases-membership : goal.decreases-membership
decreases-membership l = 32 * l.depth + 2

abbrev pub decreases-missing : goal.decreases-missing
decreases-missing l = 32 * l.depth + 3

abbrev pub decreases-existence : goal.decreases-existence
decreases-existence l = 32 * l.depth + 2

abbrev pub decreases-filter_test : goal.decreases-filter_test
decreases-filter_test l = 32 * l.depth + 4

abbrev pub decreases-tested : goal.decreases-tested
decreases-tested l = 32 * l.depth + 5

abbrev pub decreases-primary : goal.decreases-primary
decreases-primary l = 32 * l.depth + 6

abbrev pub decreases-negation : goal.decreases-negation
decreases-negation l = 32 * l.depth + 7

abbrev pub decreases-conjunction : goal.decreases-conjunction
decreases-conjunction l = 32 * l.depth + 9

abbrev pub decreases-condition : goal.decreases-condition
decreases-condition l = 32 * l.depth + 12

abbrev pub decreases-filter : goal.decreases-filter
decreases-filter l = 32 * l.depth + 13

abbrev pub decreases-join : goal.decreases-join
decreases-join l = 32 * l.depth + 13

abbrev pub decreases-chain : goal.decreases-chain
decreases-chain l = 32 * l.depth + 15

abbrev pub decreases-from : goal.decreases-from
decreases-from l = 32 * l.depth + 18

abbrev pub decreases-select : goal.decreases-select
decreases-select l = 32 * l.depth + 19

abbrev pub invariant-conjunction-negations : goal.invariant-conjunction-negations
invariant-conjunction-negations l =
    with_front l.all (reads l.fn.end l.fn.depth (separated (sample (token.Keyword k.And)) (a_negation l.fn.clause)) l.rest)
    ≡ with_front [] (reads l.fn.end l.fn.depth (separated (sample (token.Keyword k.And)) (a_negation l.fn.clause)) l.initial.rest)

abbrev pub decreases-conjunction-negations : goal.decreases-conjunction-negations
decreases-conjunction-negations l = length l.rest

abbrev pub invariant-condition-conjunctions : goal.invariant-condition-conjunctions
invariant-condition-conjunctions l =
    with_front l.all (reads l.fn.end l.fn.depth (separated (sample (token.Keyword k.Or)) (a_conjunction l.fn.clause)) l.rest)
    ≡ with_front [] (reads l.fn.end l.fn.depth (separated (sample (token.Keyword k.Or)) (a_conjunction l.fn.clause)) l.initial.rest)

abbrev pub decreases-condition-conjunctions : goal.decreases-condition-conjunctions
decreases-condition-conjunctions l = length l.rest

abbrev pub invariant-from-chains : goal.invariant-from-chains
invariant-from-chains l =
    with_front l.all (reads l.fn.end l.fn.depth (separated (sample (token.Symbol s.Comma)) a_chain) l.rest)
    ≡ with_front [] (reads l.fn.end l.fn.depth (separated (sample (token.Symbol s.Comma)) a_chain) l.initial.rest)

abbrev pub decreases-from-chains : goal.decreases-from-chains
decreases-from-chains l = length l.rest

abbrev pub invariant-chain-joins : goal.invariant-chain-joins
invariant-chain-joins l = with_front l.joins (reads l.fn.end l.fn.depth (many a_join) l.rest) ≡ with_front [] (reads l.fn.end l.fn.depth (many a_join) l.initial.rest)

abbrev pub decreases-chain-joins : goal.decreases-chain-joins
decreases-chain-joins l = length l.rest
