-- When a statement is a query over a schema: rules, part by part (the scope rules of ISO/IEC 9075-2, 7.6, table reference, and
-- 7.12, query specification, in this project's profile of SQL). Numbers are asked of the whole query alone, by IsNumbered.
use Rattle.std.specs.Prelude.{◌≡◌, ◌↔◌, ◌≤◌, ◌+◌, ℕ, Bool, true, List, [], ◌∷◌, ◌++◌, length, map, Option, Some, None, Ok}
use Rattle.std.specs.List.{AllByRecursion, list_all}
use Rattle.schema.specs.declared.schema.Kind.{Kind}
use Rattle.schema.specs.declared.schema.Kind.TheVariants as kind
use Rattle.schema.specs.declared.schema.Schema.{Schema}
use Rattle.schema.specs.Each.{Pairs}
use Rattle.sql_parse.specs.declared.statement.AggregateFunction.{AggregateFunction}
use Rattle.sql_parse.specs.declared.statement.Chain.{Chain, out-Chain}
use Rattle.sql_parse.specs.declared.statement.ColumnName.{ColumnName}
use Rattle.sql_parse.specs.declared.statement.Condition.{Condition}
use Rattle.sql_parse.specs.declared.statement.Condition.TheVariants as tree
use Rattle.sql_parse.specs.declared.statement.HavingCondition.{HavingCondition}
use Rattle.sql_parse.specs.declared.statement.ItemValue.{ItemValue}
use Rattle.sql_parse.specs.declared.statement.ItemValue.TheVariants as text
use Rattle.sql_parse.specs.declared.statement.Join.{Join, out-Join}
use Rattle.sql_parse.specs.declared.statement.Operator.{Operator}
use Rattle.sql_parse.specs.declared.statement.OrderKey.{OrderKey}
use Rattle.sql_parse.specs.declared.statement.Select.{Select, out-Select}
use Rattle.sql_parse.specs.declared.statement.SelectItem.{SelectItem}
use Rattle.sql_parse.specs.declared.statement.SelectList.{SelectList}
use Rattle.sql_parse.specs.declared.statement.SelectList.TheVariants as list
use Rattle.sql_parse.specs.declared.statement.Statement.{Statement}
use Rattle.sql_parse.specs.declared.statement.TableName.{TableName}
use Rattle.sql_parse.specs.declared.statement.Term as terms
use Rattle.sql_parse.specs.declared.statement.Term.TheVariants as written
use Rattle.query.specs.declared.query.Aggregate.{Aggregate}
use Rattle.query.specs.declared.query.Aggregate.TheVariants as by
use Rattle.query.specs.declared.query.Cond.{Cond}
use Rattle.query.specs.declared.query.Cond.TheVariants as cond
use Rattle.query.specs.declared.query.From.{From}
use Rattle.query.specs.declared.query.From.TheVariants as from
use Rattle.query.specs.declared.query.Item.{Item}
use Rattle.query.specs.declared.query.Item.TheVariants as item
use Rattle.query.specs.declared.query.TableReference.{TableReference}
use Rattle.query.specs.declared.query.Query.{Query}
use Rattle.query.specs.declared.query.SortKey.{SortKey}
use Rattle.query.specs.declared.query.Term.TheVariants as term
use Rattle.query.specs.Bound.{IsOver}
use Rattle.binder.specs.declared.output.Output.{Output}
use Rattle.binder.specs.declared.scope.TypedColumn.{TypedColumn}
use Rattle.binder.specs.declared.selects.BoundSelect.{BoundSelect}
use Rattle.binder.specs.declared.selects.BoundTerm.{BoundTerm}
use Rattle.binder.specs.declared.statement.TheConstants.{MAX_COLUMNS}
use Rattle.binder.specs.Analyses.{statement_content}
use Rattle.binder.specs.Extents.{is_within, of_select}
use Rattle.binder.specs.HavingShapes.{having_fits, having_values}
use Rattle.binder.specs.Havings.{is_key}
use Rattle.binder.specs.Kinds.{are_comparable, kind_of}
use Rattle.binder.specs.Meanings.{HasAny, IsFirst, Means}
use Rattle.binder.specs.Ordering.{first_place, same_item, without_repeats}
use Rattle.binder.specs.Outputs.{is_grouped, is_shown, output_name, shows}
use Rattle.binder.specs.Parts.{aggregate_by, all_columns, has_aggregate, items_meant, kind_by}
use Rattle.binder.specs.Queries.{bound_statement}
use Rattle.binder.specs.Scopes.{Known, Scope, Scopes, known_name}
use Rattle.binder.specs.Selects.{block_of, joined}
use Rattle.binder.specs.TextNumbers.{IsNumbered, block_listing, columns_together}

-- ---- terms and items

abbrev pub BindsTerm : Scopes → terms.Term → BoundTerm → Type 0
BindsTerm scopes (written.Column c) x = (found : TypedColumn) × Means c scopes found × (x ≡ record { term = term.Column found.column; kind = Some found.kind })
BindsTerm scopes (written.Literal v) x = x ≡ record { term = term.Literal v; kind = kind_of v }

-- a GROUP BY column is one of the own FROM
abbrev pub BindsKey : Scopes → ColumnName → ℕ → Type 0
BindsKey scopes c place = (found : TypedColumn) × Means c scopes found × (found.column.level ≡ 0) × (place ≡ found.column.place)

-- so is the column of an aggregate
abbrev pub BindsAggregate : Scopes → AggregateFunction → Option ColumnName → Aggregate → Kind → Type 0
BindsAggregate scopes f None a k = (a ≡ by.CountRows) × (k ≡ kind.Int)
BindsAggregate scopes f (Some c) a k =
    (found : TypedColumn) × Means c scopes found × (found.column.level ≡ 0) × (has_aggregate f found.kind ≡ true) × (a ≡ aggregate_by f found.column.place) × (k ≡ kind_by f found.kind)

abbrev pub BindsValue : Scopes → Bool → List ℕ → ItemValue → Item → Kind → Type 0
BindsValue scopes grouped keys (text.Column c) i k =
    (found : TypedColumn) × Means c scopes found × (shows grouped keys found.column ≡ true) × (i ≡ item.Column found.column) × (k ≡ found.kind)
BindsValue scopes grouped keys (text.Aggregate call) i k = (number : ℕ) × (a : Aggregate) × BindsAggregate scopes call.function call.column a k × (i ≡ item.Aggregate number a)

-- what a HAVING names is a GROUP BY column or an aggregate
abbrev pub BindsAsked : Scopes → List ℕ → ItemValue → Item × Kind → Type 0
BindsAsked scopes keys (text.Column c) (i, k) = (found : TypedColumn) × Means c scopes found × (is_key keys found.column ≡ true) × (i ≡ item.Column found.column) × (k ≡ found.kind)
BindsAsked scopes keys (text.Aggregate call) (i, k) = BindsValue scopes true keys (text.Aggregate call) i k

-- and what it compares goes together
abbrev pub BindsHaving : Scopes → List ℕ → Option HavingCondition → List Item → Type 0
BindsHaving scopes keys having items =
    (found : List (Item × Kind)) × Pairs (BindsAsked scopes keys) (having_values having) found × (having_fits (map (λ f. f.1) found) having ≡ true) × (items ≡ map (λ f. f.0) found)

abbrev pub BindsItem : Scopes → Bool → List ℕ → SelectItem → Output → Type 0
BindsItem scopes grouped keys i o = (o.name ≡ output_name i.alias i.value) × BindsValue scopes grouped keys i.value o.item o.kind

abbrev pub BindsList : Scope → Scopes → Bool → List ℕ → SelectList → List Output → Type 0
BindsList scope scopes grouped keys (list.Items items) outputs = Pairs (BindsItem scopes grouped keys) items outputs
BindsList scope scopes grouped keys (list.Star at) outputs = (outputs ≡ all_columns scope) × (list_all (λ o. is_shown grouped keys o.item) outputs ≡ true)

module _ (S : Schema) where
  -- a table of the schema, whose name is no other's of the FROM
  pub record BindsTable (others : Scope) (t : TableName) (o : TableReference) (k : Known) : Type 0 where
    pub entry : IsFirst (λ e. e.name ≡ t.name.text) S.tables o.table k.entry
    pub name : k.name ≡ (known_name t).text
    pub free : HasAny (λ (other : Known). other.name ≡ k.name) others → ⊥

  -- ---- conditions, FROMs and SELECTs: what a part is in the text, what its own parts are, and what it is in the query

  mutual
    pub data BindsCondition : Scopes → Condition → Cond → Type 0 where
      -- a comparison of two terms, whose kinds go together
      comparison : {scopes : Scopes} {c : Condition} {x : Cond} (a b : terms.Term) (op : Operator) (l r : BoundTerm) → c ≡ tree.Compare a op b
          → BindsTerm scopes a l → BindsTerm scopes b r → are_comparable l.kind r.kind ≡ true → x ≡ cond.Compare op.comparison l.term r.term → BindsCondition scopes c x
      -- IS NULL
      null_test : {scopes : Scopes} {c : Condition} {x : Cond} (a : terms.Term) (l : BoundTerm) → c ≡ tree.IsNull a → BindsTerm scopes a l → x ≡ cond.IsNull l.term → BindsCondition scopes c x
      -- NOT, AND and OR of conditions
      negation : {scopes : Scopes} {c : Condition} {x : Cond} (d : Condition) (y : Cond) → c ≡ tree.Not d → BindsCondition scopes d y → x ≡ cond.Not y → BindsCondition scopes c x
      conjunction : {scopes : Scopes} {c : Condition} {x : Cond} (ds : List Condition) (ys : List Cond) → c ≡ tree.And ds → BindsConditions scopes ds ys → x ≡ cond.And ys → BindsCondition scopes c x
      disjunction : {scopes : Scopes} {c : Condition} {x : Cond} (ds : List Condition) (ys : List Cond) → c ≡ tree.Or ds → BindsConditions scopes ds ys → x ≡ cond.Or ys → BindsCondition scopes c x
      -- EXISTS of a subquery
      existence : {scopes : Scopes} {c : Condition} {x : Cond} (q : Select) (r : BoundSelect) → c ≡ tree.Exists q → BindsSelect scopes q r → x ≡ cond.Exists r.block → BindsCondition scopes c x
      -- IN of a subquery that shows one column, whose kind and the term's go together
      membership : {scopes : Scopes} {c : Condition} {x : Cond} (a : terms.Term) (at : ℕ) (q : Select) (l : BoundTerm) (r : BoundSelect) (o : Output) → c ≡ tree.In a at q
          → BindsTerm scopes a l → BindsSelect scopes q r → r.outputs ≡ o ∷ [] → are_comparable l.kind (Some o.kind) ≡ true → x ≡ cond.In l.term r.block → BindsCondition scopes c x

    -- one by one
    pub data BindsConditions : Scopes → List Condition → List Cond → Type 0 where
      no_condition : {scopes : Scopes} → BindsConditions scopes [] []
      conditions : {scopes : Scopes} {c : Condition} {cs : List Condition} {x : Cond} {xs : List Cond} → BindsCondition scopes c x → BindsConditions scopes cs xs → BindsConditions scopes (c ∷ cs) (x ∷ xs)

    -- behind the tables of the chains before, and the tables and the FROM of its own chain so far
    pub data BindsJoins : Scopes → Scope → Scope → From → List Join → Scope → From → Type 0 where
      no_join : {outer : Scopes} {others chain : Scope} {left : From} → BindsJoins outer others chain left [] chain left
      -- an ON sees both sides
      joins : {outer : Scopes} {others chain all : Scope} {left whole : From} {js : List Join} (j : Join) (o : TableReference) (k : Known) (on : Cond) → BindsTable (others ++ chain) (out-Join j).table o k
          → BindsCondition ((chain ++ k ∷ []) ∷ outer) (out-Join j).condition on → BindsJoins outer others (chain ++ k ∷ []) (joined (out-Join j).kind left o on) js all whole
          → BindsJoins outer others chain left (j ∷ js) all whole

    -- a table and what is joined to it
    pub data BindsChain : Scopes → Scope → Chain → Scope → From → Type 0 where
      chain : {outer : Scopes} {others all : Scope} {whole : From} (c : Chain) (o : TableReference) (k : Known) → BindsTable others (out-Chain c).table o k
          → BindsJoins outer others (k ∷ []) (from.Table o) (out-Chain c).joins all whole → BindsChain outer others c all whole

    -- behind the tables and the FROM so far
    pub data BindsCommas : Scopes → Scope → From → List Chain → Scope → From → Type 0 where
      no_comma : {outer : Scopes} {scope : Scope} {left : From} → BindsCommas outer scope left [] scope left
      commas : {outer : Scopes} {scope right all : Scope} {left next whole : From} {c : Chain} {cs : List Chain} → BindsChain outer scope c right next
          → BindsCommas outer (scope ++ right) (from.Comma left next) cs all whole → BindsCommas outer scope left (c ∷ cs) all whole

    pub data BindsFilter : Scopes → Option Condition → Option Cond → Type 0 where
      no_filter : {scopes : Scopes} → BindsFilter scopes None None
      filter : {scopes : Scopes} {c : Condition} {x : Cond} → BindsCondition scopes c x → BindsFilter scopes (Some c) (Some x)

    -- A FROM has at least one chain. WHERE, GROUP BY, HAVING and the items see all of its tables.
    pub data BindsSelect : Scopes → Select → BoundSelect → Type 0 where
      select : {outer : Scopes} {q : Select} {r : BoundSelect} (c : Chain) (cs : List Chain) (first scope : Scope) (left sources : From) (where_ : Option Cond) (keys : List ℕ) (asked : List Item) (outputs : List Output)
          → (out-Select q).from ≡ c ∷ cs → BindsChain outer [] c first left → BindsCommas outer first left cs scope sources
          → BindsFilter (scope ∷ outer) (out-Select q).filter where_ → Pairs (BindsKey (scope ∷ outer)) (out-Select q).group keys
          → BindsHaving (scope ∷ outer) keys (out-Select q).having asked
          → BindsList scope (scope ∷ outer) (is_grouped keys (out-Select q).list (out-Select q).having) keys (out-Select q).list outputs
          → r ≡ record { block = block_of (out-Select q).distinct sources where_ (is_grouped keys (out-Select q).list (out-Select q).having) keys (out-Select q).having asked outputs; outputs = outputs; scope = scope }
          → BindsSelect outer q r

  -- ---- the whole

  -- the items that the key means are one column
  abbrev pub BindsOrder : Scope → List Output → OrderKey → SortKey → Type 0
  BindsOrder scope outputs key k =
      (i : Item) × (others : List Item) × (items_meant scope outputs key ≡ i ∷ others) × (list_all (same_item i) others ≡ true) × (k ≡ record { item = first_place i outputs; descending = key.descending })

  -- the statement is this query
  pub record Binds (s : Statement) (q : Query) : Type 0 where
    -- so many table instances, SELECTs and tests, and in all so many columns and aggregates
    pub sizes : is_within (of_select S s.select) ≡ true
    pub columns : columns_together q.tables + length (block_listing q.block).aggregates ≤ MAX_COLUMNS
    pub shown : BoundSelect
    pub select : BindsSelect [] s.select shown
    pub block : q.block ≡ shown.block
    pub names : q.names ≡ map (λ o. o.name) shown.outputs
    -- a later key over a column that is a key already is dropped
    pub keys : List SortKey
    pub order_by : Pairs (BindsOrder shown.scope shown.outputs) s.order keys
    pub order : q.order ≡ without_repeats keys
    -- the table instances are of tables of the schema, and have the names by which the text knows them
    pub over : AllByRecursion (IsOver S) q.tables
    pub known : map (λ t. t.name) q.tables ≡ map (λ t. (known_name t).text) (statement_content S s).tables
    pub numbered : IsNumbered q

-- ---- the law

-- a statement becomes a query if and only if it is that query by the rules
abbrev pub StatementsBind : Type 0
StatementsBind = (S : Schema) (s : Statement) (q : Query) → (bound_statement S s ≡ Ok q) ↔ Binds S s q
