-- The grammar of SELECT statements (this project's profile of SQL), production by production.
use Rattle.std.specs.Prelude.{ℕ, pos, Bool, true, false, is_some, List, [], ◌∷◌, Option, Some, None}
use Rattle.values.specs.declared.truth.Comparison.{Comparison}
use Rattle.values.specs.declared.truth.Comparison.TheVariants as by
use Rattle.values.specs.declared.value.Value.{Value}
use Rattle.values.specs.declared.value.Value.TheVariants as value
use Rattle.grammar.specs.Grammars.{Grammar, tok, pure, seq, map, alt, many, nested, Language, after, before, optional, separated}
use Rattle.sql_parse.specs.declared.token.Keyword.{Keyword}
use Rattle.sql_parse.specs.declared.token.Keyword.TheVariants as k
use Rattle.sql_parse.specs.declared.token.Symbol.{Symbol}
use Rattle.sql_parse.specs.declared.token.Symbol.TheVariants as s
use Rattle.sql_parse.specs.declared.token.TokenKind.{TokenKind}
use Rattle.sql_parse.specs.declared.token.TokenKind.TheVariants as token
use Rattle.sql_parse.specs.declared.token.Token.{Token}
use Rattle.sql_parse.specs.declared.name.Name.{Name}
use Rattle.sql_parse.specs.declared.statement.ColumnName.{ColumnName}
use Rattle.sql_parse.specs.declared.statement.Term.{Term}
use Rattle.sql_parse.specs.declared.statement.Term.TheVariants as term
use Rattle.sql_parse.specs.declared.statement.Operator.{Operator}
use Rattle.sql_parse.specs.declared.statement.Condition.{Condition}
use Rattle.sql_parse.specs.declared.statement.Condition.TheVariants as c
use Rattle.sql_parse.specs.declared.statement.AggregateFunction.{AggregateFunction}
use Rattle.sql_parse.specs.declared.statement.AggregateFunction.TheVariants as function
use Rattle.sql_parse.specs.declared.statement.AggregateCall.{AggregateCall}
use Rattle.sql_parse.specs.declared.statement.ItemValue.{ItemValue}
use Rattle.sql_parse.specs.declared.statement.ItemValue.TheVariants as item
use Rattle.sql_parse.specs.declared.statement.SelectItem.{SelectItem}
use Rattle.sql_parse.specs.declared.statement.SelectList.{SelectList}
use Rattle.sql_parse.specs.declared.statement.SelectList.TheVariants as list
use Rattle.sql_parse.specs.declared.statement.TableName.{TableName}
use Rattle.sql_parse.specs.declared.statement.JoinKind.{JoinKind}
use Rattle.sql_parse.specs.declared.statement.JoinKind.TheVariants as join
use Rattle.sql_parse.specs.declared.statement.Join.{Join, roll-Join}
use Rattle.sql_parse.specs.declared.statement.Chain.{Chain, roll-Chain}
use Rattle.sql_parse.specs.declared.statement.HavingTerm.{HavingTerm}
use Rattle.sql_parse.specs.declared.statement.HavingTerm.TheVariants as having_term
use Rattle.sql_parse.specs.declared.statement.HavingCondition.{HavingCondition}
use Rattle.sql_parse.specs.declared.statement.HavingCondition.TheVariants as h
use Rattle.sql_parse.specs.declared.statement.Select.{Select, roll-Select}
use Rattle.sql_parse.specs.declared.statement.OrderKey.{OrderKey}
use Rattle.sql_parse.specs.declared.statement.Statement.{Statement}
use Rattle.sql_parse.specs.declared.class.Clause.{Clause}
use Rattle.sql_parse.specs.declared.class.Clause.TheVariants as clauses
use Rattle.sql_parse.specs.Classes.{kind_number}

-- what may stand between parentheses
pub data Place : Type 0 → Type 1 where
  -- a condition in parentheses, in a WHERE or in an ON
  of_condition : Clause → Place Condition
  -- a condition in parentheses, in a HAVING
  of_having : Place HavingCondition
  -- a subquery
  of_select : Place Select
  -- what COUNT counts: rows or a column
  of_count : Place (Option ColumnName)
  -- the column of SUM, MIN or MAX
  of_column : Place ColumnName

abbrev pub Sql : Type 0 → Type 1
Sql A = Grammar Token Place A

-- ---- tokens

abbrev pub sample : TokenKind → Token
sample kind = record { kind = kind; at = 0 }

abbrev pub keyword : Keyword → Sql Token
keyword word = tok (sample (token.Keyword word))

abbrev pub symbol : Symbol → Sql Token
symbol sign = tok (sample (token.Symbol sign))

abbrev pub text_in : TokenKind → List ℕ
text_in (token.Name text) = text
text_in _ = []

abbrev pub name_of : Token → Name
name_of t = record { text = text_in t.kind; at = t.at }

unfoldable pub a_name : Sql Name
a_name = map name_of (tok (sample (token.Name [])))

abbrev pub value_in : TokenKind → Value
value_in (token.Number n) = value.Int n
value_in (token.Text text) = value.Text text
value_in _ = value.Null

-- `number | text | NULL`
unfoldable pub a_literal : Sql Value
a_literal = alt (map (λ t. value_in t.kind) (tok (sample (token.Number (pos 0))))) (alt (map (λ t. value_in t.kind) (tok (sample (token.Text [])))) (map (λ _. value.Null) (keyword k.Null)))

abbrev pub comparison_in : TokenKind → Comparison
comparison_in (token.Comparison comparison) = comparison
comparison_in _ = by.Equal

-- `= | <> | < | <= | > | >=`
unfoldable pub an_operator : Sql Operator
an_operator = map (λ t. record { comparison = comparison_in t.kind; at = t.at }) (tok (sample (token.Comparison by.Equal)))

-- ---- names

abbrev pub column_of : Name × Option Name → ColumnName
column_of (name, None) = record { table = None; name = name }
column_of (table, Some name) = record { table = Some table; name = name }

-- `name [. name]`
unfoldable pub a_column : Sql ColumnName
a_column = map column_of (seq a_name (optional (after (symbol s.Dot) a_name)))

-- `[[AS] name]`
unfoldable pub an_alias : Sql (Option Name)
an_alias = alt (map (λ name. Some name) (after (keyword k.As) a_name)) (optional a_name)

-- `name [[AS] name]`
unfoldable pub a_table : Sql TableName
a_table = map (λ x. record { name = x.0; alias = x.1 }) (seq a_name an_alias)

-- `column | number | text | NULL`
unfoldable pub a_term : Sql Term
a_term = alt (map (λ column. term.Column column) a_column) (map (λ value. term.Literal value) a_literal)

-- ---- conditions

-- `operator term`
unfoldable pub a_comparison : Sql (Term → Condition)
a_comparison = map (λ x left. c.Compare left x.0 x.1) (seq an_operator a_term)

abbrev pub null_test : Option Token → Term → Condition
null_test None term = c.IsNull term
null_test (Some _) term = c.Not (c.IsNull term)

-- `IS [NOT] NULL`
unfoldable pub a_null_test : Sql (Term → Condition)
a_null_test = map null_test (after (keyword k.Is) (before (optional (keyword k.Not)) (keyword k.Null)))

-- `IN ( select )`
unfoldable pub a_membership : Sql (Term → Condition)
a_membership = map (λ x term. c.In term x.0.at x.1) (seq (keyword k.In) (nested of_select))

-- `NOT IN ( select )`
unfoldable pub a_missing : Sql (Term → Condition)
a_missing = map (λ test term. c.Not (test term)) (after (keyword k.Not) a_membership)

-- What stands behind a term. In an ON there are no subqueries.
unfoldable pub a_test : Clause → Sql (Term → Condition)
a_test clauses.Where = alt a_comparison (alt a_null_test (alt a_missing a_membership))
a_test clauses.On = alt a_comparison a_null_test

-- `term test`
unfoldable pub a_tested : Clause → Sql Condition
a_tested clause = map (λ x. x.1 x.0) (seq a_term (a_test clause))

-- `EXISTS ( select )`
unfoldable pub an_existence : Sql Condition
an_existence = map (λ query. c.Exists query) (after (keyword k.Exists) (nested of_select))

-- `( condition ) | EXISTS ( select ) | term test`
unfoldable pub a_primary : Clause → Sql Condition
a_primary clauses.Where = alt (nested (of_condition clauses.Where)) (alt an_existence (a_tested clauses.Where))
a_primary clauses.On = alt (nested (of_condition clauses.On)) (a_tested clauses.On)

-- `[NOT] primary`
unfoldable pub a_negation : Clause → Sql Condition
a_negation clause = alt (map (λ x. c.Not x) (after (keyword k.Not) (a_primary clause))) (a_primary clause)

-- one alone stands for itself
abbrev pub all_of : List Condition → Condition
all_of [] = c.And []
all_of (x ∷ []) = x
all_of (x ∷ y ∷ xs) = c.And (x ∷ y ∷ xs)

abbrev pub any_of : List Condition → Condition
any_of [] = c.Or []
any_of (x ∷ []) = x
any_of (x ∷ y ∷ xs) = c.Or (x ∷ y ∷ xs)

-- `negation {AND negation}`
unfoldable pub a_conjunction : Clause → Sql Condition
a_conjunction clause = map all_of (separated (sample (token.Keyword k.And)) (a_negation clause))

-- `conjunction {OR conjunction}`
unfoldable pub a_condition : Clause → Sql Condition
a_condition clause = map any_of (separated (sample (token.Keyword k.Or)) (a_conjunction clause))

-- ---- FROM

-- `[INNER] JOIN | LEFT [OUTER] JOIN`
unfoldable pub a_join_kind : Sql JoinKind
a_join_kind = alt (map (λ _. join.Inner) (keyword k.Join))
    (alt (map (λ _. join.Inner) (after (keyword k.Inner) (keyword k.Join)))
    (map (λ _. join.Left) (after (keyword k.Left) (after (optional (keyword k.Outer)) (keyword k.Join)))))

-- `.. JOIN table ON condition`
unfoldable pub a_join : Sql Join
a_join = map (λ x. roll-Join (record { kind = x.0; table = x.1.0; condition = x.1.1 })) (seq a_join_kind (seq a_table (after (keyword k.On) (a_condition clauses.On))))

-- `table {join}`
unfoldable pub a_chain : Sql Chain
a_chain = map (λ x. roll-Chain (record { table = x.0; joins = x.1 })) (seq a_table (many a_join))

-- ---- SELECT

abbrev pub aggregate_of : AggregateFunction → Token → Option ColumnName → AggregateCall
aggregate_of function t column = record { function = function; at = t.at; column = column }

-- `SUM ( column )` and its like
abbrev pub an_aggregate_by : Keyword → AggregateFunction → Sql AggregateCall
an_aggregate_by word function = map (λ x. aggregate_of function x.0 (Some x.1)) (seq (keyword word) (nested of_column))

-- `COUNT ( * ) | (COUNT | SUM | MIN | MAX) ( column )`
unfoldable pub an_aggregate : Sql AggregateCall
an_aggregate = alt (map (λ x. aggregate_of function.Count x.0 x.1) (seq (keyword k.Count) (nested of_count)))
    (alt (an_aggregate_by k.Sum function.Sum) (alt (an_aggregate_by k.Min function.Min) (an_aggregate_by k.Max function.Max)))

-- `* | column`
unfoldable pub a_count : Sql (Option ColumnName)
a_count = alt (map (λ _. None) (symbol s.Star)) (map (λ column. Some column) a_column)

-- `column | aggregate`
unfoldable pub an_item_value : Sql ItemValue
an_item_value = alt (map (λ column. item.Column column) a_column) (map (λ call. item.Aggregate call) an_aggregate)

-- `value [[AS] name]`
unfoldable pub an_item : Sql SelectItem
an_item = map (λ x. record { value = x.0; alias = x.1 }) (seq an_item_value an_alias)

-- `* | item {, item}`
unfoldable pub a_list : Sql SelectList
a_list = alt (map (λ t. list.Star t.at) (symbol s.Star)) (map (λ items. list.Items items) (separated (sample (token.Symbol s.Comma)) an_item))

-- `column {, column}`
unfoldable pub the_columns : Sql (List ColumnName)
the_columns = separated (sample (token.Symbol s.Comma)) a_column

-- ---- HAVING

-- `column | aggregate | number | text | NULL`
unfoldable pub a_having_term : Sql HavingTerm
a_having_term = alt (map (λ column. having_term.Column column) a_column)
    (alt (map (λ call. having_term.Aggregate call) an_aggregate) (map (λ value. having_term.Literal value) a_literal))

-- `operator term`
unfoldable pub a_having_comparison : Sql (HavingTerm → HavingCondition)
a_having_comparison = map (λ x left. h.Compare left x.0 x.1) (seq an_operator a_having_term)

abbrev pub having_null_test : Option Token → HavingTerm → HavingCondition
having_null_test None term = h.IsNull term
having_null_test (Some _) term = h.Not (h.IsNull term)

-- `IS [NOT] NULL`
unfoldable pub a_having_null_test : Sql (HavingTerm → HavingCondition)
a_having_null_test = map having_null_test (after (keyword k.Is) (before (optional (keyword k.Not)) (keyword k.Null)))

-- what stands behind a term
unfoldable pub a_having_test : Sql (HavingTerm → HavingCondition)
a_having_test = alt a_having_comparison a_having_null_test

-- `term test`
unfoldable pub a_having_tested : Sql HavingCondition
a_having_tested = map (λ x. x.1 x.0) (seq a_having_term a_having_test)

-- `( condition ) | term test`
unfoldable pub a_having_primary : Sql HavingCondition
a_having_primary = alt (nested of_having) a_having_tested

-- `[NOT] primary`
unfoldable pub a_having_negation : Sql HavingCondition
a_having_negation = alt (map (λ x. h.Not x) (after (keyword k.Not) a_having_primary)) a_having_primary

-- one alone stands for itself
abbrev pub all_having : List HavingCondition → HavingCondition
all_having [] = h.And []
all_having (x ∷ []) = x
all_having (x ∷ y ∷ xs) = h.And (x ∷ y ∷ xs)

abbrev pub any_having : List HavingCondition → HavingCondition
any_having [] = h.Or []
any_having (x ∷ []) = x
any_having (x ∷ y ∷ xs) = h.Or (x ∷ y ∷ xs)

-- `negation {AND negation}`
unfoldable pub a_having_conjunction : Sql HavingCondition
a_having_conjunction = map all_having (separated (sample (token.Keyword k.And)) a_having_negation)

-- `conjunction {OR conjunction}`
unfoldable pub a_having_condition : Sql HavingCondition
a_having_condition = map any_having (separated (sample (token.Keyword k.Or)) a_having_conjunction)

-- `[HAVING condition]`
unfoldable pub the_having : Sql (Option HavingCondition)
the_having = optional (after (keyword k.Having) a_having_condition)

-- ---- the clauses of a SELECT

-- `[WHERE condition]`
unfoldable pub a_filter : Sql (Option Condition)
a_filter = optional (after (keyword k.Where) (a_condition clauses.Where))

-- `[GROUP BY column {, column}]`
unfoldable pub a_group : Sql (List ColumnName)
a_group = alt (after (keyword k.Group) (after (keyword k.By) the_columns)) (pure [])

-- `FROM chain {, chain}`
unfoldable pub a_from : Sql (List Chain)
a_from = after (keyword k.From) (separated (sample (token.Symbol s.Comma)) a_chain)

-- `SELECT [DISTINCT]`
unfoldable pub a_head : Sql Bool
a_head = map is_some (after (keyword k.Select) (optional (keyword k.Distinct)))

unfoldable pub a_select : Sql Select
a_select = map (λ x. roll-Select (record { distinct = x.0; list = x.1.0; from = x.1.1.0; filter = x.1.1.1.0; group = x.1.1.1.1.0; having = x.1.1.1.1.1 }))
    (seq a_head (seq a_list (seq a_from (seq a_filter (seq a_group the_having)))))

-- ---- the statement

-- `[ASC | DESC]`
unfoldable pub a_direction : Sql Bool
a_direction = alt (map (λ _. true) (keyword k.Desc)) (alt (map (λ _. false) (keyword k.Asc)) (pure false))

-- `column [ASC | DESC]`
unfoldable pub a_key : Sql OrderKey
a_key = map (λ x. record { column = x.0; descending = x.1 }) (seq a_column a_direction)

-- `[ORDER BY key {, key}]`
unfoldable pub an_order : Sql (List OrderKey)
an_order = alt (after (keyword k.Order) (after (keyword k.By) (separated (sample (token.Symbol s.Comma)) a_key))) (pure [])

-- `select [ORDER BY key {, key}] [;]`
unfoldable pub a_statement : Sql Statement
a_statement = before (map (λ x. record { select = x.0; order = x.1 }) (seq a_select an_order)) (optional (symbol s.Semicolon))

-- ---- the language

abbrev pub body : (A : Type 0) → Place A → Sql A
body A (of_condition clause) = a_condition clause
body A of_having = a_having_condition
body A of_select = a_select
body A of_count = a_count
body A of_column = a_column

abbrev pub sql : Language Token Place
sql = record { class = λ t. kind_number t.kind; opening = sample (token.Symbol s.OpenParenthesis); closing = sample (token.Symbol s.CloseParenthesis); body = body }
