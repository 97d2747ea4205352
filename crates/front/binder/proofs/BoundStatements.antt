-- The query that a statement is over a schema is bound, and its table instances are tables of the schema.
use Rattle.std.proofs.Common.{◌≡◌, refl, ap, sym, subst, ℕ, true, List, [], map, nat_le, Option, Some, None, arith}
use Rattle.std.specs.List.{AllByRecursion}
use Rattle.std.proofs.lemmas.List.{append-nil}
use Rattle.values.specs.Faults.{wanted_if}
use Rattle.schema.specs.declared.schema.Schema.{Schema}
use Rattle.sql_parse.specs.declared.statement.Condition.{Condition, roll-Condition}
use Rattle.sql_parse.specs.declared.statement.Condition.TheVariants as tree
use Rattle.sql_parse.specs.declared.statement.Condition.TheOpen.{Condition-F, Join-F, Chain-F, Select-F}
use Rattle.sql_parse.specs.declared.statement.Condition.TheFolds.{ind-Select, map-Condition, map-Join, map-Chain, map-Select}
use Rattle.sql_parse.specs.declared.statement.Join.{Join, roll-Join, out-roll-Join}
use Rattle.sql_parse.specs.declared.statement.Chain.{Chain, roll-Chain, out-roll-Chain}
use Rattle.sql_parse.specs.declared.statement.Select.{Select, roll-Select, out-roll-Select}
use Rattle.sql_parse.specs.declared.statement.Statement.{Statement}
use Rattle.query.specs.declared.query.TableInstance.{TableInstance}
use Rattle.query.specs.declared.query.SortKey.{SortKey}
use Rattle.query.specs.declared.query.Query.{Query}
use Rattle.binder.specs.declared.extent.Extent.{Extent}
use Rattle.binder.specs.declared.tables.Numbered.{Numbered}
use Rattle.binder.specs.declared.selects.BoundSelect.{BoundSelect}
use Rattle.binder.specs.declared.statement.TheConstants.{MAX_COLUMNS}
use Rattle.binder.specs.declared.fault.BindReason.TheVariants.{TooLarge}
use Rattle.binder.specs.Lookups.{refusal}
use Rattle.binder.specs.Extents.{of_select, is_within}
use Rattle.binder.specs.Selects.{select_in}
use Rattle.binder.specs.Ordering.{order_in}
use Rattle.binder.specs.Queries.{at_start, bound_statement}
use Rattle.query.specs.Bound.{block_scope, is_bound, IsOver}
use Rattle.query.proofs.TableInstances.{instances-wide}
use Rattle.sql_parse.specs.PlainOns.{select_ons, ons_are_plain}
use Rattle.binder.specs.BoundStatements.{StatementsAreBound, StatementsAreOver, StatementsAreWide}
use Rattle.binder.proofs.Given.{Given, and-then, given-from, given-if, given-ok}
use Rattle.binder.proofs.BoundParts.{SelectIs, CondBound, JoinBound, ChainBound, SelectBound}
use Rattle.binder.proofs.BoundConditions.{bound-Compare, bound-IsNull, bound-Not, bound-And, bound-Or, bound-Exists, bound-In}
use Rattle.binder.proofs.BoundFroms.{bound-join, bound-chain}
use Rattle.binder.proofs.BoundBlocks.{bound-select}
use Rattle.binder.proofs.Growth.{AllBelow}

module _ (S : Schema) (instances : List TableInstance) (T : ℕ) where
  abbrev ProvedCondition : Type 0
  ProvedCondition = (c : Condition) × CondBound S instances T c

  abbrev ProvedJoin : Type 0
  ProvedJoin = (j : Join) × JoinBound S instances T j

  abbrev ProvedChain : Type 0
  ProvedChain = (c : Chain) × ChainBound S instances T c

  abbrev ProvedSelect : Type 0
  ProvedSelect = (q : Select) × SelectBound S instances T q

  abbrev plain_condition : Condition-F ProvedCondition ProvedChain ProvedJoin ProvedSelect → Condition-F Condition Chain Join Select
  plain_condition = map-Condition _ _ _ _ Condition Chain Join Select (λ c. c.0) (λ c. c.0) (λ j. j.0) (λ q. q.0)

  abbrev plain_join : Join-F ProvedCondition ProvedChain ProvedJoin ProvedSelect → Join-F Condition Chain Join Select
  plain_join = map-Join _ _ _ _ Condition Chain Join Select (λ c. c.0) (λ c. c.0) (λ j. j.0) (λ q. q.0)

  abbrev plain_chain : Chain-F ProvedCondition ProvedChain ProvedJoin ProvedSelect → Chain-F Condition Chain Join Select
  plain_chain = map-Chain _ _ _ _ Condition Chain Join Select (λ c. c.0) (λ c. c.0) (λ j. j.0) (λ q. q.0)

  abbrev plain_select : Select-F ProvedCondition ProvedChain ProvedJoin ProvedSelect → Select-F Condition Chain Join Select
  plain_select = map-Select _ _ _ _ Condition Chain Join Select (λ c. c.0) (λ c. c.0) (λ j. j.0) (λ q. q.0)

  condition-bound : (y : Condition-F ProvedCondition ProvedChain ProvedJoin ProvedSelect) → CondBound S instances T (roll-Condition (plain_condition y))
  condition-bound (Condition-F.Compare a op b) = subst (CondBound S instances T) (sym (tree.rolls-Compare a op b)) (bound-Compare S instances T a op b)
  condition-bound (Condition-F.IsNull a) = subst (CondBound S instances T) (sym (tree.rolls-IsNull a)) (bound-IsNull S instances T a)
  condition-bound (Condition-F.Not c) = subst (CondBound S instances T) (sym (tree.rolls-Not c.0)) (bound-Not S instances T c.0 c.1)
  condition-bound (Condition-F.And cs) = subst (CondBound S instances T) (sym (tree.rolls-And (map (λ c. c.0) cs))) (bound-And S instances T cs)
  condition-bound (Condition-F.Or cs) = subst (CondBound S instances T) (sym (tree.rolls-Or (map (λ c. c.0) cs))) (bound-Or S instances T cs)
  condition-bound (Condition-F.Exists q) = subst (CondBound S instances T) (sym (tree.rolls-Exists q.0)) (bound-Exists S instances T q.0 q.1)
  condition-bound (Condition-F.In a at q) = subst (CondBound S instances T) (sym (tree.rolls-In a at q.0)) (bound-In S instances T a at q.0 q.1)

  chain-bound : (y : Chain-F ProvedCondition ProvedChain ProvedJoin ProvedSelect) → ChainBound S instances T (roll-Chain (plain_chain y))
  chain-bound y = bound-chain S instances T (roll-Chain (plain_chain y)) y.joins (sym (ap (λ x. x.joins) (out-roll-Chain (plain_chain y))))

  join-bound : (y : Join-F ProvedCondition ProvedChain ProvedJoin ProvedSelect) → JoinBound S instances T (roll-Join (plain_join y))
  join-bound y = bound-join S instances T (roll-Join (plain_join y)) (subst (CondBound S instances T) (sym (ap (λ x. x.condition) (out-roll-Join (plain_join y)))) y.condition.1)

  select-bound : (y : Select-F ProvedCondition ProvedChain ProvedJoin ProvedSelect) (w : Option ProvedCondition) → SelectBound S instances T (roll-Select (plain_select (record y { filter = w })))
  select-bound y None = bound-select S instances T (roll-Select (plain_select (record y { filter = None }))) y.from None
      (sym (ap (λ x. x.from) (out-roll-Select (plain_select (record y { filter = None }))))) (sym (ap (λ x. x.filter) (out-roll-Select (plain_select (record y { filter = None })))))
  select-bound y (Some c) = bound-select S instances T (roll-Select (plain_select (record y { filter = Some c }))) y.from (Some c)
      (sym (ap (λ x. x.from) (out-roll-Select (plain_select (record y { filter = Some c }))))) (sym (ap (λ x. x.filter) (out-roll-Select (plain_select (record y { filter = Some c })))))

  -- each SELECT is bound, wherever it stands
  pub selects_bound : (q : Select) → SelectBound S instances T q
  selects_bound = ind-Select (CondBound S instances T) (ChainBound S instances T) (JoinBound S instances T) (SelectBound S instances T)
      (λ x y is. subst (λ z. CondBound S instances T (roll-Condition z)) is (condition-bound y))
      (λ x y is. subst (λ z. ChainBound S instances T (roll-Chain z)) is (chain-bound y))
      (λ x y is. subst (λ z. JoinBound S instances T (roll-Join z)) is (join-bound y))
      (λ x y is. subst (λ z. SelectBound S instances T (roll-Select z)) is (select-bound y y.filter))

-- what is known of the query of a statement
abbrev IsKnown : Schema → Statement → Query → Type 0
IsKnown S s q = (ons_are_plain s ≡ true → is_bound q ≡ true) × AllByRecursion (IsOver S) q.tables

-- the SELECT of a statement, whose table instances are all that have numbers after it
select-known : (S : Schema) (s : Statement) (extent : Extent) (r : BoundSelect × Numbered) (names : List (List ℕ)) (order : List SortKey) → extent ≡ of_select S s.select
    → SelectIs S r.1.tables extent.columns (of_select S s.select).columns (select_ons s.select) [] (at_start extent) (block_scope r.1.tables r.0.block) r.0.outputs r.1
    → IsKnown S s (record { tables = r.1.tables; block = r.0.block; names = names; order = order })
select-known S s extent r names order same is = (
  (λ ons. is.bound ons (record {
    tables = ([], sym (append-nil r.1.tables));
    low = let more = is.grown.columns in let at = ap (λ e. e.columns) same in let wide : r.1.next_column ≡ extent.columns = omega (arith, more, at) in subst (λ b. AllBelow b r.1.tables) wide (is.grown.low tt);
    columns = let more = is.grown.columns in let at = ap (λ e. e.columns) same in omega (arith, more, at);
    aggregates = omega arith;
  }) [] tt),
  is.grown.over tt,
)

statement-known : (S : Schema) (s : Statement) → Given (IsKnown S s) (bound_statement S s)
unfolding bound_statement
statement-known S s =
    and-then (λ e. e ≡ of_select S s.select) (IsKnown S s) (wanted_if (refusal TooLarge 0) (is_within (of_select S s.select)) (of_select S s.select)) _
    (given-if (λ e. e ≡ of_select S s.select) (refusal TooLarge 0) (is_within (of_select S s.select)) (of_select S s.select) (λ within. refl)) (λ extent same.
    and-then (λ r. SelectIs S r.1.tables extent.columns (of_select S s.select).columns (select_ons s.select) [] (at_start extent) (block_scope r.1.tables r.0.block) r.0.outputs r.1) (IsKnown S s) (select_in S s.select [] (at_start extent)) _
    (given-from _ (select_in S s.select [] (at_start extent)) (λ r is. given-ok _ (select_in S s.select [] (at_start extent)) r is (selects_bound S r.1.tables extent.columns s.select [] (at_start extent)))) (λ r is.
    and-then (λ order. Unit {0}) (IsKnown S s) (order_in r.0.scope r.0.outputs s.order) _ (given-from _ (order_in r.0.scope r.0.outputs s.order) (λ order is. tt)) (λ order found.
    given-if (IsKnown S s) (refusal TooLarge 0) (nat_le r.1.next_aggregate MAX_COLUMNS) _ (λ few. select-known S s extent r (map (λ o. o.name) r.0.outputs) order same is))))

pub statements_bound : StatementsAreBound
statements_bound S s q plain is = (given-ok (IsKnown S s) (bound_statement S s) q is (statement-known S s)).0 plain

pub statements_over : StatementsAreOver
statements_over S s q is = (given-ok (IsKnown S s) (bound_statement S s) q is (statement-known S s)).1

pub statements_wide : StatementsAreWide
statements_wide S D s q is = instances-wide S D q.tables (statements_over S s q is)
