-- One token of look-ahead decides the grammar of statements.
use Rattle.std.proofs.Common.{◌≡◌, true, false, List, [], ◌∷◌, None, inl, inr, refl}
use Rattle.values.specs.declared.value.Value.TheVariants as value
use Rattle.grammar.specs.Grammars.{seq}
use Rattle.grammar.specs.Words.{Within}
use Rattle.grammar.specs.Readers.{decides, paired, Sample, IsDecided}
use Rattle.sql_parse.specs.declared.name.Name.{Name}
use Rattle.sql_parse.specs.declared.class.Clause.{Clause}
use Rattle.sql_parse.specs.declared.class.Clause.TheVariants as clauses
use Rattle.sql_parse.specs.declared.statement.Condition.{Condition}
use Rattle.sql_parse.specs.declared.statement.Condition.TheVariants as c
use Rattle.sql_parse.specs.declared.statement.HavingCondition.{HavingCondition}
use Rattle.sql_parse.specs.declared.statement.HavingCondition.TheVariants as having
use Rattle.sql_parse.specs.declared.statement.HavingTerm.TheVariants as having_term
use Rattle.sql_parse.specs.declared.statement.Select.{roll-Select}
use Rattle.sql_parse.specs.declared.statement.SelectList.TheVariants as list
use Rattle.sql_parse.specs.declared.statement.Chain.{Chain, roll-Chain}
use Rattle.sql_parse.specs.declared.statement.Term.TheVariants as term
use Rattle.sql_parse.specs.declared.token.Keyword.TheVariants as k
use Rattle.sql_parse.specs.declared.token.Symbol.TheVariants as s
use Rattle.sql_parse.specs.declared.token.Token.{Token}
use Rattle.sql_parse.specs.declared.token.TokenKind.TheVariants as token
use Rattle.sql_parse.specs.Sql.{Place, of_condition, of_having, of_select, of_count, of_column, sample, a_name, a_literal, an_operator, a_column, an_alias, a_table, a_term, a_comparison, null_test, a_null_test, a_membership, a_missing, a_test, a_tested, an_existence, a_primary, a_negation, a_conjunction, a_condition, a_join_kind, a_join, a_chain, an_aggregate, a_count, an_item_value, an_item, a_list, the_columns, a_having_term, a_having_comparison, having_null_test, a_having_null_test, a_having_test, a_having_tested, a_having_primary, a_having_negation, a_having_conjunction, a_having_condition, the_having, a_filter, a_group, a_from, a_head, a_select, a_direction, a_key, an_order, a_statement, body, sql}

pub body_decided : (A : Type 0) (p : Place A) → decides sql (32 ∷ []) (body A p) ≡ true
unfolding a_name a_literal an_operator a_column an_alias a_table a_term a_comparison a_null_test a_membership a_missing a_test a_tested an_existence a_primary a_negation a_conjunction a_condition a_join_kind a_join a_chain an_aggregate a_count an_item_value an_item a_list the_columns a_having_term a_having_comparison a_having_null_test a_having_test a_having_tested a_having_primary a_having_negation a_having_conjunction a_having_condition the_having a_filter a_group a_from a_head a_select
body_decided A (of_condition clauses.Where) = refl
body_decided A (of_condition clauses.On) = refl
body_decided A of_having = refl
body_decided A of_select = refl
body_decided A of_count = refl
body_decided A of_column = refl

pub body_paired : (A : Type 0) (p : Place A) → paired sql (body A p) ≡ true
unfolding a_name a_literal an_operator a_column an_alias a_table a_term a_comparison a_null_test a_membership a_missing a_test a_tested an_existence a_primary a_negation a_conjunction a_condition a_join_kind a_join a_chain an_aggregate a_count an_item_value an_item a_list the_columns a_having_term a_having_comparison a_having_null_test a_having_test a_having_tested a_having_primary a_having_negation a_having_conjunction a_having_condition the_having a_filter a_group a_from a_head a_select
body_paired A (of_condition clauses.Where) = refl
body_paired A (of_condition clauses.On) = refl
body_paired A of_having = refl
body_paired A of_select = refl
body_paired A of_count = refl
body_paired A of_column = refl

pub statement_decided : decides sql [] a_statement ≡ true
unfolding a_name a_literal an_operator a_column an_alias a_table a_term a_comparison a_null_test a_membership a_missing a_test a_tested an_existence a_primary a_negation a_conjunction a_condition a_join_kind a_join a_chain an_aggregate a_count an_item_value an_item a_list the_columns a_having_term a_having_comparison a_having_null_test a_having_test a_having_tested a_having_primary a_having_negation a_having_conjunction a_having_condition the_having a_filter a_group a_from a_head a_select a_direction a_key an_order a_statement
statement_decided = refl

pub statement_paired : paired sql a_statement ≡ true
unfolding a_name a_literal an_operator a_column an_alias a_table a_term a_comparison a_null_test a_membership a_missing a_test a_tested an_existence a_primary a_negation a_conjunction a_condition a_join_kind a_join a_chain an_aggregate a_count an_item_value an_item a_list the_columns a_having_term a_having_comparison a_having_null_test a_having_test a_having_tested a_having_primary a_having_negation a_having_conjunction a_having_condition the_having a_filter a_group a_from a_head a_select a_direction a_key an_order a_statement
statement_paired = refl

-- ---- something that may stand between parentheses, at each place

null : Token
null = sample (token.Keyword k.Null)

is : Token
is = sample (token.Keyword k.Is)

abbrev some_name : Name
some_name = record { text = []; at = 0 }

a_null : Condition
a_null = c.IsNull (term.Literal value.Null)

literal_word : Within sql 0 a_term (null ∷ []) (term.Literal value.Null)
unfolding a_term a_literal null
literal_word = inr (value.Null, refl, inr (inr (null, refl, (refl, refl))))

test_word : Within sql 0 a_null_test (is ∷ null ∷ []) (null_test None)
unfolding a_null_test is null
test_word = (None, refl, ((is, None), refl, (is ∷ [], null ∷ [], refl, (refl, refl), ((None, null), refl, ([], null ∷ [], refl, inr (refl, refl), (refl, refl))))))

tested_word : (clause : Clause) → Within sql 0 (a_tested clause) (null ∷ is ∷ null ∷ []) a_null
unfolding a_tested a_test a_null
tested_word clauses.Where = ((term.Literal value.Null, null_test None), refl, (null ∷ [], is ∷ null ∷ [], refl, literal_word, inr (inl test_word)))
tested_word clauses.On = ((term.Literal value.Null, null_test None), refl, (null ∷ [], is ∷ null ∷ [], refl, literal_word, inr test_word))

primary_word : (clause : Clause) → Within sql 0 (a_primary clause) (null ∷ is ∷ null ∷ []) a_null
unfolding a_primary
primary_word clauses.Where = inr (inr (tested_word clauses.Where))
primary_word clauses.On = inr (tested_word clauses.On)

condition_word : (clause : Clause) → Within sql 0 (a_condition clause) (null ∷ is ∷ null ∷ []) a_null
unfolding a_condition a_conjunction a_negation
condition_word clause =
    let w : List Token = null ∷ is ∷ null ∷ [] in
    let conjunction : Within sql 0 (a_conjunction clause) w a_null = (a_null ∷ [], refl, ((a_null, []), refl, (w, [], refl, inr (primary_word clause), refl))) in
    (a_null ∷ [], refl, ((a_null, []), refl, (w, [], refl, conjunction, refl)))

a_null_having : HavingCondition
a_null_having = having.IsNull (having_term.Literal value.Null)

having_literal_word : Within sql 0 a_having_term (null ∷ []) (having_term.Literal value.Null)
unfolding a_having_term a_literal null
having_literal_word = inr (inr (value.Null, refl, inr (inr (null, refl, (refl, refl)))))

having_test_word : Within sql 0 a_having_null_test (is ∷ null ∷ []) (having_null_test None)
unfolding a_having_null_test is null
having_test_word = (None, refl, ((is, None), refl, (is ∷ [], null ∷ [], refl, (refl, refl), ((None, null), refl, ([], null ∷ [], refl, inr (refl, refl), (refl, refl))))))

having_tested_word : Within sql 0 a_having_tested (null ∷ is ∷ null ∷ []) a_null_having
unfolding a_having_tested a_having_test a_null_having
having_tested_word = ((having_term.Literal value.Null, having_null_test None), refl, (null ∷ [], is ∷ null ∷ [], refl, having_literal_word, inr having_test_word))

having_condition_word : Within sql 0 a_having_condition (null ∷ is ∷ null ∷ []) a_null_having
unfolding a_having_condition a_having_conjunction a_having_negation a_having_primary
having_condition_word =
    let w : List Token = null ∷ is ∷ null ∷ [] in
    let conjunction : Within sql 0 a_having_conjunction w a_null_having = (a_null_having ∷ [], refl, ((a_null_having, []), refl, (w, [], refl, inr (inr having_tested_word), refl))) in
    (a_null_having ∷ [], refl, ((a_null_having, []), refl, (w, [], refl, conjunction, refl)))

abbrev star : Token
star = sample (token.Symbol s.Star)

abbrev named : Token
named = sample (token.Name [])

name_word : Within sql 0 a_name (named ∷ []) some_name
unfolding a_name
name_word = (named, refl, (refl, refl))

column_word : Within sql 0 a_column (named ∷ []) (record { table = None; name = some_name })
unfolding a_column
column_word = ((some_name, None), refl, (named ∷ [], [], refl, name_word, inr (refl, refl)))

table_word : Within sql 0 a_table (named ∷ []) (record { name = some_name; alias = None })
unfolding a_table an_alias
table_word = ((some_name, None), refl, (named ∷ [], [], refl, name_word, inr (inr (refl, refl))))

abbrev some_chain : Chain
some_chain = roll-Chain (record { table = record { name = some_name; alias = None }; joins = [] })

chain_word : Within sql 0 a_chain (named ∷ []) some_chain
unfolding a_chain
chain_word = ((record { name = some_name; alias = None }, []), refl, (named ∷ [], [], refl, table_word, refl))

abbrev select_token : Token
select_token = sample (token.Keyword k.Select)

abbrev from_token : Token
from_token = sample (token.Keyword k.From)

head_word : Within sql 0 a_head (select_token ∷ []) false
unfolding a_head
head_word = (None, refl, ((select_token, None), refl, (select_token ∷ [], [], refl, (refl, refl), inr (refl, refl))))

list_word : Within sql 0 a_list (star ∷ []) (list.Star 0)
unfolding a_list
list_word = inl (star, refl, (refl, refl))

from_word : Within sql 0 a_from (from_token ∷ named ∷ []) (some_chain ∷ [])
unfolding a_from
from_word = ((from_token, some_chain ∷ []), refl, (from_token ∷ [], named ∷ [], refl, (refl, refl), ((some_chain, []), refl, (named ∷ [], [], refl, chain_word, refl))))

tail_word : Within sql 0 (seq a_filter (seq a_group the_having)) [] (None, ([], None))
unfolding a_filter a_group the_having
tail_word = ([], [], refl, inr (refl, refl), ([], [], refl, inr (refl, refl), inr (refl, refl)))

select_word : Within sql 0 a_select (select_token ∷ star ∷ from_token ∷ named ∷ []) (roll-Select (record { distinct = false; list = list.Star 0; from = some_chain ∷ []; filter = None; group = []; having = None }))
unfolding a_select
select_word =
    let rest : Within sql 0 (seq a_from (seq a_filter (seq a_group the_having))) (from_token ∷ named ∷ []) (some_chain ∷ [], (None, ([], None))) = (from_token ∷ named ∷ [], [], refl, from_word, tail_word) in
    let behind : Within sql 0 (seq a_list (seq a_from (seq a_filter (seq a_group the_having)))) (star ∷ from_token ∷ named ∷ []) (list.Star 0, (some_chain ∷ [], (None, ([], None)))) =
    (star ∷ [], from_token ∷ named ∷ [], refl, list_word, rest) in
    ((false, (list.Star 0, (some_chain ∷ [], (None, ([], None))))), refl, (select_token ∷ [], star ∷ from_token ∷ named ∷ [], refl, head_word, behind))

count_word : Within sql 0 a_count (star ∷ []) None
unfolding a_count
count_word = inl (star, refl, (refl, refl))

body_word : (A : Type 0) (p : Place A) → Sample sql A p
body_word A (of_condition clause) = (null ∷ is ∷ null ∷ [], a_null, condition_word clause)
body_word A of_having = (_, _, having_condition_word)
body_word A of_select = (_, _, select_word)
body_word A of_count = (_, _, count_word)
body_word A of_column = (_, _, column_word)

pub is_decided : IsDecided sql
is_decided = record { distinct = refl; decided = body_decided; pairs = body_paired; sample = body_word }
