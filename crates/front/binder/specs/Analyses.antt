-- What a statement means, and every fault of it in the order in which it is looked at: an attribute grammar over its tree
-- (D. E. Knuth, Semantics of Context-Free Languages, 1968), by the rules of this project's profile of SQL. Faults are lists one
-- behind the other, and numbers are lengths of what stands before.
use Rattle.std.specs.Prelude.{◌≡◌, ◌↔◌, ◌+◌, ℕ, not, nat_le, List, [], ◌∷◌, ◌++◌, filter, flat_map, length, map, Option, Some, None, Ok, Err}
use Rattle.schema.specs.declared.schema.Kind.{Kind}
use Rattle.schema.specs.declared.schema.Schema.{Schema}
use Rattle.sql_parse.specs.declared.statement.Condition.{Condition}
use Rattle.sql_parse.specs.declared.statement.Condition.TheOpen.{Condition-F, Join-F, Chain-F, Select-F}
use Rattle.sql_parse.specs.declared.statement.Condition.TheFolds.{fold-Condition, fold-Join, fold-Chain, fold-Select}
use Rattle.sql_parse.specs.declared.statement.HavingCondition.{HavingCondition}
use Rattle.sql_parse.specs.declared.statement.HavingCondition.TheOpen.{HavingCondition-F}
use Rattle.sql_parse.specs.declared.statement.HavingCondition.TheFolds.{fold-HavingCondition}
use Rattle.sql_parse.specs.declared.statement.Join.{Join}
use Rattle.sql_parse.specs.declared.statement.Chain.{Chain}
use Rattle.sql_parse.specs.declared.statement.Select.{Select}
use Rattle.sql_parse.specs.declared.statement.Statement.{Statement}
use Rattle.sql_parse.specs.declared.statement.TableName.{TableName}
use Rattle.query.specs.declared.query.Block.{Block}
use Rattle.query.specs.declared.query.Cond.{Cond}
use Rattle.query.specs.declared.query.Cond.TheVariants as cond
use Rattle.query.specs.declared.query.From.{From}
use Rattle.query.specs.declared.query.From.TheVariants as from
use Rattle.query.specs.declared.query.Query.{Query}
use Rattle.binder.specs.declared.fault.BindReason.TheVariants.{MixedKinds, NotOneColumn, TooLarge, UnknownTable}
use Rattle.binder.specs.declared.fault.BindRefusal.{BindRefusal}
use Rattle.binder.specs.declared.output.Output.{Output}
use Rattle.binder.specs.declared.statement.TheConstants.{MAX_COLUMNS}
use Rattle.binder.specs.Extents.{is_within, of_select}
use Rattle.binder.specs.HavingShapes.{having_values}
use Rattle.binder.specs.Kinds.{are_comparable}
use Rattle.binder.specs.Ordering.{without_repeats}
use Rattle.binder.specs.Outputs.{aggregates, is_call, is_grouped}
use Rattle.binder.specs.Parts.{unless, term_faults, the_term, term_asked_faults, asked_kind, the_asked, known, table_faults, widths, the_reference, instances_behind, key_faults, the_key, list_faults, shown, kinds_shown, is_empty, is_one, first_kind, order_faults, the_sort_key}
use Rattle.binder.specs.Queries.{bound_statement}
use Rattle.binder.specs.Scopes.{Scope, Scopes}
use Rattle.binder.specs.Selects.{block_of, joined}

-- ---- what is asked of each part

-- What stands before a part: the table instances, and the number that its first aggregate has. Aggregates are numbered
-- behind all columns of the text, those of a SELECT's items before those of its subqueries.
pub record Before : Type 0 where
  pub tables : List TableName
  pub aggregates : ℕ

-- The table instances that stand in a part, in the order of the text, and how many aggregates.
pub record Content : Type 0 where
  pub tables : List TableName
  pub aggregates : ℕ

abbrev pub behind : Before → Content → Before
behind before c = record { tables = before.tables ++ c.tables; aggregates = before.aggregates + c.aggregates }

abbrev pub nothing : Content
nothing = record { tables = []; aggregates = 0 }

abbrev pub both : Content → Content → Content
both a b = record { tables = a.tables ++ b.tables; aggregates = a.aggregates + b.aggregates }

abbrev pub all_contents : List Content → Content
all_contents [] = nothing
all_contents (c ∷ cs) = both c (all_contents cs)

-- Each part has faults, and is something in the bound query, among the FROMs around it.
pub record ConditionAnalysis : Type 0 where
  pub content : Content
  pub faults : Scopes → List BindRefusal
  pub becomes : Scopes → Before → Cond

-- among the FROMs outside, behind the tables of the chains before it and of its own chain
pub record JoinAnalysis : Type 0 where
  pub table : TableName
  pub content : Content
  pub faults : Scopes → Scope → Scope → List BindRefusal
  pub becomes : Scopes → Scope → Before → From → From

pub record ChainAnalysis : Type 0 where
  pub scope : Scope
  pub content : Content
  pub faults : Scopes → Scope → List BindRefusal
  pub becomes : Scopes → Before → From

pub record SelectAnalysis : Type 0 where
  pub content : Content
  pub faults : Scopes → List BindRefusal
  pub becomes : Scopes → Before → Block
  -- its own FROM, and what it shows, where its first aggregate has this number
  pub scope : Scope
  pub kinds : Scopes → List Kind
  pub outputs : Scopes → ℕ → List Output

-- ---- conditions

abbrev pub all_become : Scopes → Before → List ConditionAnalysis → List Cond
all_become scopes before [] = []
all_become scopes before (c ∷ cs) = c.becomes scopes before ∷ all_become scopes (behind before c.content) cs

abbrev pub several : (List Cond → Cond) → List ConditionAnalysis → ConditionAnalysis
several together cs = record {
  content = all_contents (map (λ c. c.content) cs);
  faults = λ scopes. flat_map (λ c. c.faults scopes) cs;
  becomes = λ scopes before. together (all_become scopes before cs);
}

-- The terms and the subquery come first. Of an IN it is asked that it has one column, and then the kinds.
abbrev pub condition_layer : Condition-F ConditionAnalysis ChainAnalysis JoinAnalysis SelectAnalysis → ConditionAnalysis
condition_layer (Condition-F.Compare a op b) = record {
  content = nothing;
  faults = λ scopes. term_faults scopes a ++ (term_faults scopes b ++ unless (are_comparable (the_term scopes a).kind (the_term scopes b).kind) MixedKinds op.at);
  becomes = λ scopes before. cond.Compare op.comparison (the_term scopes a).term (the_term scopes b).term;
}
condition_layer (Condition-F.IsNull a) = record {
  content = nothing;
  faults = λ scopes. term_faults scopes a;
  becomes = λ scopes before. cond.IsNull (the_term scopes a).term;
}
condition_layer (Condition-F.Not c) = record { content = c.content; faults = c.faults; becomes = λ scopes before. cond.Not (c.becomes scopes before) }
condition_layer (Condition-F.And cs) = several (λ parts. cond.And parts) cs
condition_layer (Condition-F.Or cs) = several (λ parts. cond.Or parts) cs
condition_layer (Condition-F.Exists q) = record { content = q.content; faults = q.faults; becomes = λ scopes before. cond.Exists (q.becomes scopes before) }
condition_layer (Condition-F.In a at q) = record {
  content = q.content;
  faults = λ scopes. term_faults scopes a ++ (q.faults scopes
      ++ (unless (is_one (q.kinds scopes)) NotOneColumn at ++ unless (are_comparable (the_term scopes a).kind (first_kind (q.kinds scopes))) MixedKinds at));
  becomes = λ scopes before. cond.In (the_term scopes a).term (q.becomes scopes before);
}

-- ---- FROM

module _ (S : Schema) where
  abbrev pub one_table : TableName → Content
  one_table t = record { tables = t ∷ []; aggregates = 0 }

  -- the table, and then its ON, which sees both sides
  abbrev pub join_layer : Join-F ConditionAnalysis ChainAnalysis JoinAnalysis SelectAnalysis → JoinAnalysis
  join_layer x = record {
    table = x.table;
    content = both (one_table x.table) x.condition.content;
    faults = λ outer others chain. table_faults S (others ++ chain) x.table ++ x.condition.faults ((chain ++ known S x.table ∷ []) ∷ outer);
    becomes = λ outer chain before left.
        joined x.kind left (the_reference S before.tables x.table) (x.condition.becomes ((chain ++ known S x.table ∷ []) ∷ outer) (behind before (one_table x.table)));
  }

  abbrev pub joins_faults : Scopes → Scope → Scope → List JoinAnalysis → List BindRefusal
  joins_faults outer others chain [] = []
  joins_faults outer others chain (j ∷ joins) = j.faults outer others chain ++ joins_faults outer others (chain ++ known S j.table ∷ []) joins

  abbrev pub joins_become : Scopes → Scope → Before → From → List JoinAnalysis → From
  joins_become outer chain before left [] = left
  joins_become outer chain before left (j ∷ joins) =
      joins_become outer (chain ++ known S j.table ∷ []) (behind before j.content) (j.becomes outer chain before left) joins

  abbrev pub chain_layer : Chain-F ConditionAnalysis ChainAnalysis JoinAnalysis SelectAnalysis → ChainAnalysis
  chain_layer x = record {
    scope = known S x.table ∷ map (λ j. known S j.table) x.joins;
    content = both (one_table x.table) (all_contents (map (λ j. j.content) x.joins));
    faults = λ outer others. table_faults S others x.table ++ joins_faults outer others (known S x.table ∷ []) x.joins;
    becomes = λ outer before. joins_become outer (known S x.table ∷ []) (behind before (one_table x.table)) (from.Table (the_reference S before.tables x.table)) x.joins;
  }

abbrev pub chains_faults : Scopes → Scope → List ChainAnalysis → List BindRefusal
chains_faults outer others [] = []
chains_faults outer others (c ∷ chains) = c.faults outer others ++ chains_faults outer (others ++ c.scope) chains

abbrev pub commas_become : Scopes → Before → From → List ChainAnalysis → From
commas_become outer before left [] = left
commas_become outer before left (c ∷ chains) = commas_become outer (behind before c.content) (from.Comma left (c.becomes outer before)) chains

-- no text has a FROM without a table
abbrev pub from_faults : Scopes → List ChainAnalysis → List BindRefusal
from_faults outer chains = unless (not (is_empty chains)) UnknownTable 0 ++ chains_faults outer [] chains

abbrev pub from_becomes : Scopes → Before → List ChainAnalysis → From
from_becomes outer before [] = from.Table (record { number = 0; table = 0 })
from_becomes outer before (c ∷ chains) = commas_become outer (behind before c.content) (c.becomes outer before) chains

-- ---- HAVING

-- every fault of a HAVING, among these scopes and over these keys: of a comparison its terms come first, and then their kinds
abbrev pub HavingFaults : Type 0
HavingFaults = Scopes → List ℕ → List BindRefusal

abbrev pub all_asked_faults : List HavingFaults → HavingFaults
all_asked_faults cs scopes keys = flat_map (λ c. c scopes keys) cs

abbrev pub having_faults_layer : HavingCondition-F HavingFaults → HavingFaults
having_faults_layer (HavingCondition-F.Compare a op b) scopes keys =
    term_asked_faults scopes keys a ++ (term_asked_faults scopes keys b ++ unless (are_comparable (asked_kind scopes a) (asked_kind scopes b)) MixedKinds op.at)
having_faults_layer (HavingCondition-F.IsNull a) scopes keys = term_asked_faults scopes keys a
having_faults_layer (HavingCondition-F.Not c) scopes keys = c scopes keys
having_faults_layer (HavingCondition-F.And cs) scopes keys = all_asked_faults cs scopes keys
having_faults_layer (HavingCondition-F.Or cs) scopes keys = all_asked_faults cs scopes keys

unfoldable pub condition_asked_faults : HavingCondition → HavingFaults
condition_asked_faults = fold-HavingCondition HavingFaults having_faults_layer

abbrev pub having_faults : Scopes → List ℕ → Option HavingCondition → List BindRefusal
having_faults scopes keys None = []
having_faults scopes keys (Some h) = condition_asked_faults h scopes keys

-- its aggregates stand behind all others of its SELECT
abbrev pub having_content : Option HavingCondition → Content
having_content having = record { tables = []; aggregates = length (filter is_call (having_values having)) }

-- ---- SELECT

abbrev pub filter_content : Option ConditionAnalysis → Content
filter_content None = nothing
filter_content (Some c) = c.content

abbrev pub filter_faults : Scopes → Option ConditionAnalysis → List BindRefusal
filter_faults scopes None = []
filter_faults scopes (Some c) = c.faults scopes

abbrev pub filter_becomes : Scopes → Before → Option ConditionAnalysis → Option Cond
filter_becomes scopes before None = None
filter_becomes scopes before (Some c) = Some (c.becomes scopes before)

abbrev pub scope_of_from : List ChainAnalysis → Scope
scope_of_from = flat_map (λ c. c.scope)

abbrev pub from_content : List ChainAnalysis → Content
from_content chains = all_contents (map (λ c. c.content) chains)

-- FROM, WHERE, GROUP BY, HAVING, and then the items
abbrev pub select_layer : Select-F ConditionAnalysis ChainAnalysis JoinAnalysis SelectAnalysis → SelectAnalysis
select_layer x = record {
  content = both (record { tables = []; aggregates = aggregates x.list }) (both (from_content x.from) (both (filter_content x.filter) (having_content x.having)));
  faults = λ outer.
      let scopes = scope_of_from x.from ∷ outer in
      let keys = map (the_key scopes) x.group in
      from_faults outer x.from ++ (filter_faults scopes x.filter ++ (flat_map (key_faults scopes) x.group
      ++ (having_faults scopes keys x.having ++ list_faults (scope_of_from x.from) scopes (is_grouped keys x.list x.having) keys x.list)));
  becomes = λ outer before.
      let scopes = scope_of_from x.from ∷ outer in
      let keys = map (the_key scopes) x.group in
      let inside = behind before (record { tables = []; aggregates = aggregates x.list }) in
      let further = behind inside (from_content x.from) in
      block_of x.distinct (from_becomes outer inside x.from) (filter_becomes scopes further x.filter) (is_grouped keys x.list x.having) keys
      x.having (the_asked scopes (behind further (filter_content x.filter)).aggregates (having_values x.having))
      (shown (scope_of_from x.from) scopes before.aggregates x.list);
  scope = scope_of_from x.from;
  kinds = λ outer. kinds_shown (scope_of_from x.from) (scope_of_from x.from ∷ outer) x.list;
  outputs = λ outer number. shown (scope_of_from x.from) (scope_of_from x.from ∷ outer) number x.list;
}

-- ---- the whole

unfoldable pub condition_analysis : Schema → Condition → ConditionAnalysis
condition_analysis S = fold-Condition ConditionAnalysis ChainAnalysis JoinAnalysis SelectAnalysis condition_layer (chain_layer S) (join_layer S) select_layer

unfoldable pub join_analysis : Schema → Join → JoinAnalysis
join_analysis S = fold-Join ConditionAnalysis ChainAnalysis JoinAnalysis SelectAnalysis condition_layer (chain_layer S) (join_layer S) select_layer

unfoldable pub chain_analysis : Schema → Chain → ChainAnalysis
chain_analysis S = fold-Chain ConditionAnalysis ChainAnalysis JoinAnalysis SelectAnalysis condition_layer (chain_layer S) (join_layer S) select_layer

unfoldable pub select_analysis : Schema → Select → SelectAnalysis
select_analysis S = fold-Select ConditionAnalysis ChainAnalysis JoinAnalysis SelectAnalysis condition_layer (chain_layer S) (join_layer S) select_layer

module _ (S : Schema) (s : Statement) where
  abbrev pub statement_content : Content
  statement_content = (select_analysis S s.select).content

  -- aggregates are numbered behind all columns
  abbrev pub first_aggregate : ℕ
  first_aggregate = widths S statement_content.tables

  abbrev pub statement_outputs : List Output
  statement_outputs = (select_analysis S s.select).outputs [] first_aggregate

  -- Every fault, in order. Sizes come first, and the columns last of all.
  unfoldable pub statement_faults : List BindRefusal
  statement_faults =
      unless (is_within (of_select S s.select)) TooLarge 0
      ++ ((select_analysis S s.select).faults []
      ++ (flat_map (order_faults (select_analysis S s.select).scope statement_outputs) s.order
      ++ unless (nat_le (first_aggregate + statement_content.aggregates) MAX_COLUMNS) TooLarge 0))

  -- what the statement becomes, if it has no fault
  unfoldable pub statement_query : Query
  statement_query = record {
    tables = instances_behind S [] statement_content.tables;
    block = (select_analysis S s.select).becomes [] (record { tables = []; aggregates = first_aggregate });
    names = map (λ o. o.name) statement_outputs;
    order = without_repeats (map (the_sort_key (select_analysis S s.select).scope statement_outputs) s.order);
  }

-- ---- the laws

-- a statement becomes a query, if it has no fault
abbrev pub StatementsAccepted : Type 0
StatementsAccepted = (S : Schema) (s : Statement) (q : Query) → (bound_statement S s ≡ Ok q) ↔ ((statement_faults S s ≡ []) × (q ≡ statement_query S s))

-- and else it is refused with the first of its faults
abbrev pub StatementsRefused : Type 0
StatementsRefused = (S : Schema) (s : Statement) (r : BindRefusal) → (bound_statement S s ≡ Err r) ↔ ((others : List BindRefusal) × (statement_faults S s ≡ r ∷ others))
