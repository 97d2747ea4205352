-- Conditions, joins, FROMs and SELECTs over a schema, with the first fault of each (this project's profile of SQL). Each
-- layer takes its parts in the order in which faults are reported, which for table instances is that of the text.
use Rattle.std.specs.Prelude.{ℕ, Bool, List, [], ◌∷◌, ◌++◌, map, Option, Some, None, Result, Ok, Err}
use Rattle.values.specs.Faults.{◌>>=◌, wanted_if}
use Rattle.schema.specs.declared.schema.Schema.{Schema}
use Rattle.schema.specs.Each.{each}
use Rattle.sql_parse.specs.declared.statement.Term as tree
use Rattle.sql_parse.specs.declared.statement.Term.TheVariants as text
use Rattle.sql_parse.specs.declared.statement.Operator.{Operator}
use Rattle.sql_parse.specs.declared.statement.JoinKind.{JoinKind}
use Rattle.sql_parse.specs.declared.statement.JoinKind.TheVariants as by
use Rattle.sql_parse.specs.declared.statement.Condition.{Condition}
use Rattle.sql_parse.specs.declared.statement.Condition.TheOpen.{Condition-F, Join-F, Chain-F, Select-F}
use Rattle.sql_parse.specs.declared.statement.Condition.TheFolds.{fold-Condition, fold-Join, fold-Chain, fold-Select}
use Rattle.sql_parse.specs.declared.statement.HavingCondition.{HavingCondition}
use Rattle.sql_parse.specs.declared.statement.Join.{Join}
use Rattle.sql_parse.specs.declared.statement.Chain.{Chain}
use Rattle.sql_parse.specs.declared.statement.Select.{Select}
use Rattle.query.specs.declared.query.Term.TheVariants as term
use Rattle.query.specs.declared.query.Cond.{Cond}
use Rattle.query.specs.declared.query.Cond.TheVariants as cond
use Rattle.query.specs.declared.query.TableReference.{TableReference}
use Rattle.query.specs.declared.query.From.{From}
use Rattle.query.specs.declared.query.From.TheVariants as from
use Rattle.query.specs.declared.query.Block.{Block, roll-Block}
use Rattle.query.specs.declared.query.Item.{Item}
use Rattle.binder.specs.declared.having.Asked.{Asked}
use Rattle.binder.specs.declared.tables.Numbered.{Numbered}
use Rattle.binder.specs.declared.output.Output.{Output}
use Rattle.binder.specs.declared.selects.BoundTerm.{BoundTerm}
use Rattle.binder.specs.declared.selects.BoundSelect.{BoundSelect}
use Rattle.binder.specs.declared.fault.BindReason.TheVariants.{MixedKinds, NotOneColumn, UnknownTable}
use Rattle.binder.specs.declared.fault.BindRefusal.{BindRefusal}
use Rattle.binder.specs.HavingShapes.{having_becomes}
use Rattle.binder.specs.Havings.{having_asked}
use Rattle.binder.specs.Kinds.{are_comparable, kind_of}
use Rattle.binder.specs.Lookups.{refusal}
use Rattle.binder.specs.Scopes.{Scope, Scopes, meant}
use Rattle.binder.specs.Numbers.{enter, with_aggregates}
use Rattle.binder.specs.Outputs.{aggregates, is_grouped, key_in, outputs_in}

-- ---- what each part becomes, with what has numbers after it

abbrev pub CondBinding : Type 0
CondBinding = Scopes → Numbered → Result (Cond × Numbered) BindRefusal

-- a FROM so far, the tables that it has, and what has numbers
abbrev pub FromSoFar : Type 0
FromSoFar = From × Scope × Numbered

-- given the FROMs outside and the tables of the chains before it
abbrev pub JoinBinding : Type 0
JoinBinding = Scopes → Scope → FromSoFar → Result FromSoFar BindRefusal

abbrev pub ChainBinding : Type 0
ChainBinding = Scopes → Scope → Numbered → Result FromSoFar BindRefusal

abbrev pub SelectBinding : Type 0
SelectBinding = Scopes → Numbered → Result (BoundSelect × Numbered) BindRefusal

-- ---- terms

abbrev pub term_in : Scopes → tree.Term → Result BoundTerm BindRefusal
term_in scopes (text.Column c) = meant c scopes >>= λ found. Ok (record { term = term.Column found.column; kind = Some found.kind })
term_in scopes (text.Literal v) = Ok (record { term = term.Literal v; kind = kind_of v })

-- ---- conditions

-- one after the other
abbrev pub all_in : List CondBinding → Scopes → Numbered → Result (List Cond × Numbered) BindRefusal
all_in [] scopes n = Ok ([], n)
all_in (c ∷ cs) scopes n = do
  first ← c scopes n
  others ← all_in cs scopes first.1
  Ok (first.0 ∷ others.0, others.1)

-- the one output of a subquery behind IN
abbrev pub one_output : ℕ → List Output → Result Output BindRefusal
one_output at [] = Err (refusal NotOneColumn at)
one_output at (o ∷ []) = Ok o
one_output at (o ∷ p ∷ others) = Err (refusal NotOneColumn at)

-- the terms, and then their kinds
abbrev pub comparison_in : Scopes → tree.Term → Operator → tree.Term → Result Cond BindRefusal
comparison_in scopes a op b = do
  left ← term_in scopes a
  right ← term_in scopes b
  wanted_if (refusal MixedKinds op.at) (are_comparable left.kind right.kind) (cond.Compare op.comparison left.term right.term)

-- `left IN query`: first that it gives one column, and then the kinds
abbrev pub membership_in : BoundTerm → ℕ → BoundSelect → Result Cond BindRefusal
membership_in left at query = do
  output ← one_output at query.outputs
  wanted_if (refusal MixedKinds at) (are_comparable left.kind (Some output.kind)) (cond.In left.term query.block)

-- what a condition becomes, given what becomes of its parts
abbrev pub condition_layer : Condition-F CondBinding ChainBinding JoinBinding SelectBinding → CondBinding
condition_layer (Condition-F.Compare a op b) scopes n = comparison_in scopes a op b >>= λ bound. Ok (bound, n)
condition_layer (Condition-F.IsNull a) scopes n = term_in scopes a >>= λ tested. Ok (cond.IsNull tested.term, n)
condition_layer (Condition-F.Not c) scopes n = c scopes n >>= λ part. Ok (cond.Not part.0, part.1)
condition_layer (Condition-F.And cs) scopes n = all_in cs scopes n >>= λ parts. Ok (cond.And parts.0, parts.1)
condition_layer (Condition-F.Or cs) scopes n = all_in cs scopes n >>= λ parts. Ok (cond.Or parts.0, parts.1)
condition_layer (Condition-F.Exists q) scopes n = q scopes n >>= λ query. Ok (cond.Exists query.0.block, query.1)
condition_layer (Condition-F.In a at q) scopes n = do
  left ← term_in scopes a
  query ← q scopes n
  bound ← membership_in left at query.0
  Ok (bound, query.1)

-- ---- FROM

abbrev pub joined : JoinKind → From → TableReference → Cond → From
joined by.Inner left o on = from.Join left o on
joined by.Left left o on = from.LeftJoin left o on

-- the table to the right, then its ON, which sees both sides
abbrev pub join_layer : Schema → Join-F CondBinding ChainBinding JoinBinding SelectBinding → JoinBinding
join_layer S x outer before (left, chain, n) = do
  right ← enter S before chain x.table n
  on ← x.condition (right.1 ∷ outer) right.2
  Ok (joined x.kind left right.0 on.0, right.1, on.1)

-- joins from the left
abbrev pub through : List JoinBinding → Scopes → Scope → FromSoFar → Result FromSoFar BindRefusal
through [] outer before left = Ok left
through (j ∷ joins) outer before left = j outer before left >>= through joins outer before

abbrev pub chain_layer : Schema → Chain-F CondBinding ChainBinding JoinBinding SelectBinding → ChainBinding
chain_layer S x outer before n = do
  first ← enter S before [] x.table n
  through x.joins outer before (from.Table first.0, first.1, first.2)

-- chains from the left; an ON sees its own chain alone
abbrev pub commas : List ChainBinding → Scopes → FromSoFar → Result FromSoFar BindRefusal
commas [] outer left = Ok left
commas (c ∷ chains) outer (left, scope, n) = do
  right ← c outer scope n
  commas chains outer (from.Comma left right.0, scope ++ right.1, right.2)

-- no text has a FROM without a table
abbrev pub from_in : List ChainBinding → Scopes → Numbered → Result FromSoFar BindRefusal
from_in [] outer n = Err (refusal UnknownTable 0)
from_in (c ∷ chains) outer n = c outer [] n >>= commas chains outer

-- ---- SELECT

abbrev pub filter_in : Option CondBinding → Scopes → Numbered → Result (Option Cond × Numbered) BindRefusal
filter_in None scopes n = Ok (None, n)
filter_in (Some c) scopes n = c scopes n >>= λ part. Ok (Some part.0, part.1)

abbrev pub block_of : Bool → From → Option Cond → Bool → List ℕ → Option HavingCondition → List Item → List Output → Block
block_of distinct sources filter grouped keys having asked outputs = roll-Block (record {
  from = sources;
  filter = filter;
  grouped = grouped;
  keys = keys;
  having = having_becomes having;
  having_items = asked;
  items = map (λ o. o.item) outputs;
  distinct = distinct;
})

-- a HAVING has named nothing so far, and its first aggregate has the next number
abbrev pub nothing_asked : Numbered → Asked
nothing_asked n = record { items = []; next_aggregate = n.next_aggregate }

-- the aggregates of a HAVING have numbers
abbrev pub with_asked : Numbered → Asked → Numbered
with_asked n x = record { tables = n.tables; next_column = n.next_column; next_aggregate = x.next_aggregate }

-- FROM, WHERE, GROUP BY, HAVING and the items. The aggregates among the items stand before those of the subqueries, and those
-- of HAVING behind them.
abbrev pub select_layer : Select-F CondBinding ChainBinding JoinBinding SelectBinding → SelectBinding
select_layer x outer n = do
  sources ← from_in x.from outer (with_aggregates n (aggregates x.list))
  filter ← filter_in x.filter (sources.1 ∷ outer) sources.2
  keys ← each (key_in (sources.1 ∷ outer)) x.group
  asked ← having_asked (sources.1 ∷ outer) keys x.having (nothing_asked filter.1)
  outputs ← outputs_in sources.1 (sources.1 ∷ outer) (is_grouped keys x.list x.having) keys n.next_aggregate x.list
  Ok (record { block = block_of x.distinct sources.0 filter.0 (is_grouped keys x.list x.having) keys x.having asked.items outputs; outputs = outputs; scope = sources.1 }, with_asked filter.1 asked)

-- ---- the whole

unfoldable pub condition_in : Schema → Condition → CondBinding
condition_in S = fold-Condition CondBinding ChainBinding JoinBinding SelectBinding condition_layer (chain_layer S) (join_layer S) select_layer

unfoldable pub join_in : Schema → Join → JoinBinding
join_in S = fold-Join CondBinding ChainBinding JoinBinding SelectBinding condition_layer (chain_layer S) (join_layer S) select_layer

unfoldable pub chain_in : Schema → Chain → ChainBinding
chain_in S = fold-Chain CondBinding ChainBinding JoinBinding SelectBinding condition_layer (chain_layer S) (join_layer S) select_layer

unfoldable pub select_in : Schema → Select → SelectBinding
select_in S = fold-Select CondBinding ChainBinding JoinBinding SelectBinding condition_layer (chain_layer S) (join_layer S) select_layer
