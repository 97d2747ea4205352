-- A statement without a fault becomes the query that it means, and any other is refused with its first fault.
use Rattle.std.proofs.Common.{◌≡◌, refl, sym, ◌∙◌, ap, subst, ◌+◌, List, [], ◌∷◌, flat_map, map, nat_le, Option, Some, None, Ok, Err}
use Rattle.values.specs.Faults.{wanted_if}
use Rattle.schema.specs.declared.schema.Schema.{Schema}
use Rattle.sql_parse.specs.declared.statement.Condition.{Condition, roll-Condition}
use Rattle.sql_parse.specs.declared.statement.Condition.TheVariants as tree
use Rattle.sql_parse.specs.declared.statement.Condition.TheOpen.{Condition-F, Join-F, Chain-F, Select-F}
use Rattle.sql_parse.specs.declared.statement.Condition.TheFolds.{ind-Select, map-Condition, map-Join, map-Chain, map-Select}
use Rattle.sql_parse.specs.declared.statement.Join.{Join, roll-Join, out-roll-Join}
use Rattle.sql_parse.specs.declared.statement.Chain.{Chain, roll-Chain, out-roll-Chain}
use Rattle.sql_parse.specs.declared.statement.Select.{Select, roll-Select, out-roll-Select}
use Rattle.sql_parse.specs.declared.statement.Statement.{Statement}
use Rattle.binder.specs.declared.fault.BindReason.TheVariants.{TooLarge}
use Rattle.binder.specs.declared.fault.BindRefusal.{BindRefusal}
use Rattle.binder.specs.declared.statement.TheConstants.{MAX_COLUMNS}
use Rattle.binder.specs.Extents.{is_within, of_select}
use Rattle.binder.specs.Lookups.{refusal}
use Rattle.binder.specs.Ordering.{order_in, without_repeats}
use Rattle.binder.specs.Parts.{unless, widths, order_faults, the_sort_key}
use Rattle.binder.specs.Queries.{at_start, bound_statement}
use Rattle.binder.specs.Selects.{select_in}
use Rattle.binder.specs.Analyses.{Before, behind, first_aggregate, statement_outputs, statement_faults, statement_query, StatementsAccepted, StatementsRefused, condition_analysis, join_analysis, chain_analysis, select_analysis}
use Rattle.binder.proofs.PartAnswers.{answer, then-answer, if-answer, numbered, order-answer}
use Rattle.binder.proofs.AnalysisColumns.{selects-wide}
use Rattle.binder.proofs.AnalysisAnswers.{state, bound_select, ConditionIs, JoinIs, ChainIs, SelectIs, ProvedCondition, ProvedJoin, ProvedChain, answer-Compare, answer-IsNull, answer-Not, answer-And, answer-Or, answer-Exists, answer-In, answer-join, answer-chain, answer-select, has-kinds}

module _ (S : Schema) where
  abbrev ProvedSelect : Type 0
  ProvedSelect = (q : Select) × SelectIs S q (select_analysis S q)

  abbrev plain_condition : Condition-F (ProvedCondition S) (ProvedChain S) (ProvedJoin S) ProvedSelect → Condition-F Condition Chain Join Select
  plain_condition = map-Condition _ _ _ _ Condition Chain Join Select (λ c. c.0) (λ c. c.0) (λ j. j.0) (λ q. q.0)

  abbrev plain_join : Join-F (ProvedCondition S) (ProvedChain S) (ProvedJoin S) ProvedSelect → Join-F Condition Chain Join Select
  plain_join = map-Join _ _ _ _ Condition Chain Join Select (λ c. c.0) (λ c. c.0) (λ j. j.0) (λ q. q.0)

  abbrev plain_chain : Chain-F (ProvedCondition S) (ProvedChain S) (ProvedJoin S) ProvedSelect → Chain-F Condition Chain Join Select
  plain_chain = map-Chain _ _ _ _ Condition Chain Join Select (λ c. c.0) (λ c. c.0) (λ j. j.0) (λ q. q.0)

  abbrev plain_select : Select-F (ProvedCondition S) (ProvedChain S) (ProvedJoin S) ProvedSelect → Select-F Condition Chain Join Select
  plain_select = map-Select _ _ _ _ Condition Chain Join Select (λ c. c.0) (λ c. c.0) (λ j. j.0) (λ q. q.0)

  abbrev ConditionAnswers : Condition → Type 0
  ConditionAnswers c = ConditionIs S c (condition_analysis S c)

  condition-answers : (y : Condition-F (ProvedCondition S) (ProvedChain S) (ProvedJoin S) ProvedSelect) → ConditionAnswers (roll-Condition (plain_condition y))
  condition-answers (Condition-F.Compare a op b) = subst ConditionAnswers (sym (tree.rolls-Compare a op b)) (answer-Compare S a op b)
  condition-answers (Condition-F.IsNull a) = subst ConditionAnswers (sym (tree.rolls-IsNull a)) (answer-IsNull S a)
  condition-answers (Condition-F.Not c) = subst ConditionAnswers (sym (tree.rolls-Not c.0)) (answer-Not S c.0 c.1)
  condition-answers (Condition-F.And cs) = subst ConditionAnswers (sym (tree.rolls-And (map (λ c. c.0) cs))) (answer-And S cs)
  condition-answers (Condition-F.Or cs) = subst ConditionAnswers (sym (tree.rolls-Or (map (λ c. c.0) cs))) (answer-Or S cs)
  condition-answers (Condition-F.Exists q) = subst ConditionAnswers (sym (tree.rolls-Exists q.0)) (answer-Exists S q.0 q.1)
  condition-answers (Condition-F.In a at q) = subst ConditionAnswers (sym (tree.rolls-In a at q.0)) (answer-In S a at q.0 q.1 (has-kinds S q.0))

  join-answers : (y : Join-F (ProvedCondition S) (ProvedChain S) (ProvedJoin S) ProvedSelect) → JoinIs S (roll-Join (plain_join y)) (join_analysis S (roll-Join (plain_join y)))
  join-answers y = answer-join S (roll-Join (plain_join y)) (subst ConditionAnswers (sym (ap (λ x. x.condition) (out-roll-Join (plain_join y)))) y.condition.1)

  chain-answers : (y : Chain-F (ProvedCondition S) (ProvedChain S) (ProvedJoin S) ProvedSelect) → ChainIs S (roll-Chain (plain_chain y)) (chain_analysis S (roll-Chain (plain_chain y)))
  chain-answers y = answer-chain S (roll-Chain (plain_chain y)) y.joins (sym (ap (λ x. x.joins) (out-roll-Chain (plain_chain y))))

  select-answers : (y : Select-F (ProvedCondition S) (ProvedChain S) (ProvedJoin S) ProvedSelect) (w : Option (ProvedCondition S))
      → SelectIs S (roll-Select (plain_select (record y { filter = w }))) (select_analysis S (roll-Select (plain_select (record y { filter = w }))))
  select-answers y None = answer-select S (roll-Select (plain_select (record y { filter = None }))) y.from None
      (sym (ap (λ x. x.from) (out-roll-Select (plain_select (record y { filter = None }))))) (sym (ap (λ x. x.filter) (out-roll-Select (plain_select (record y { filter = None })))))
  select-answers y (Some c) = answer-select S (roll-Select (plain_select (record y { filter = Some c }))) y.from (Some c)
      (sym (ap (λ x. x.from) (out-roll-Select (plain_select (record y { filter = Some c }))))) (sym (ap (λ x. x.filter) (out-roll-Select (plain_select (record y { filter = Some c })))))

  -- each SELECT, wherever it stands
  pub selects-answer : (q : Select) → SelectIs S q (select_analysis S q)
  selects-answer = ind-Select ConditionAnswers (λ c. ChainIs S c (chain_analysis S c)) (λ j. JoinIs S j (join_analysis S j)) (λ q. SelectIs S q (select_analysis S q))
      (λ x y is. subst (λ z. ConditionAnswers (roll-Condition z)) is (condition-answers y))
      (λ x y is. subst (λ z. ChainIs S (roll-Chain z) (chain_analysis S (roll-Chain z))) is (chain-answers y))
      (λ x y is. subst (λ z. JoinIs S (roll-Join z) (join_analysis S (roll-Join z))) is (join-answers y))
      (λ x y is. subst (λ z. SelectIs S (roll-Select z) (select_analysis S (roll-Select z))) is (select-answers y y.filter))

  -- ---- the whole

  abbrev pub start : Select → Before
  start q = record { tables = []; aggregates = widths S (select_analysis S q).content.tables }

  pub at-start : (q : Select) → at_start (of_select S q) ≡ state S (start q)
  at-start q = ap (λ n. numbered S [] n) (selects-wide S q)

statements_mean : (S : Schema) (s : Statement) → bound_statement S s ≡ answer (statement_faults S s) (statement_query S s)
unfolding bound_statement statement_faults statement_query
statements_mean S s =
    let q = s.select in
    let analysis = select_analysis S q in
    let first = start S q in
    let extent = of_select S q in
    then-answer (wanted_if (refusal TooLarge 0) (is_within extent) extent) (unless (is_within extent) TooLarge 0) extent _ _ _ (if-answer (is_within extent) TooLarge 0 extent)
    (then-answer (select_in S q [] (at_start extent)) (analysis.faults []) (bound_select S analysis [] first, state S (behind first analysis.content)) _ _ _
    (ap (select_in S q []) (at-start S q) ∙ selects-answer S q [] first)
    (then-answer (order_in analysis.scope (statement_outputs S s) s.order) (flat_map (order_faults analysis.scope (statement_outputs S s)) s.order) (without_repeats (map (the_sort_key analysis.scope (statement_outputs S s)) s.order)) _ _ _
    (order-answer analysis.scope (statement_outputs S s) s.order)
    (if-answer (nat_le (first_aggregate S s + analysis.content.aggregates) MAX_COLUMNS) TooLarge 0 _)))

-- ---- the laws

module _ {A : Type 0} (x : A) where
  accepted : (faults : List BindRefusal) (y : A) → answer faults x ≡ Ok y → (faults ≡ []) × (y ≡ x)
  accepted [] y is = let same : x ≡ y = cc is in (refl, sym same)
  accepted (r ∷ faults) y is = cc is

  accepting : (faults : List BindRefusal) (y : A) → (faults ≡ []) × (y ≡ x) → answer faults x ≡ Ok y
  accepting [] y is = ap (λ z. Ok z) (sym is.1)
  accepting (r ∷ faults) y is = let none = is.0 in cc

  refused : (faults : List BindRefusal) (r : BindRefusal) → answer faults x ≡ Err r → (others : List BindRefusal) × (faults ≡ r ∷ others)
  refused [] r is = cc is
  refused (e ∷ faults) r is = let same : e ≡ r = cc is in (faults, ap (λ z. z ∷ faults) same)

  refusing : (faults : List BindRefusal) (r : BindRefusal) → (others : List BindRefusal) × (faults ≡ r ∷ others) → answer faults x ≡ Err r
  refusing [] r is = let some = is.1 in cc
  refusing (e ∷ faults) r is = let some = is.1 in let same : e ≡ r = cc in ap (λ z. Err z) same

pub statements_accepted : StatementsAccepted
statements_accepted S s q = (
  λ is. accepted (statement_query S s) (statement_faults S s) q (sym (statements_mean S s) ∙ is),
  λ is. statements_mean S s ∙ accepting (statement_query S s) (statement_faults S s) q is,
)

pub statements_refused : StatementsRefused
statements_refused S s r = (
  λ is. refused (statement_query S s) (statement_faults S s) r (sym (statements_mean S s) ∙ is),
  λ is. statements_mean S s ∙ refusing (statement_query S s) (statement_faults S s) r is,
)
