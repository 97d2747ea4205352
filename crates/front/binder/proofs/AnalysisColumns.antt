-- The columns of a statement's table instances, counted as its size and as its tables.
use Rattle.std.proofs.Common.{◌≡◌, refl, sym, ◌∙◌, ap, subst, ℕ, ◌+◌, List, [], ◌∷◌, length, map, unwrap_or, Option, Some, None, option_map, arith}
use Rattle.schema.specs.declared.schema.Table.{Table}
use Rattle.schema.specs.declared.schema.Schema.{Schema}
use Rattle.sql_parse.specs.declared.statement.Condition.{Condition, roll-Condition}
use Rattle.sql_parse.specs.declared.statement.Condition.TheVariants as tree
use Rattle.sql_parse.specs.declared.statement.Condition.TheOpen.{Condition-F, Join-F, Chain-F, Select-F}
use Rattle.sql_parse.specs.declared.statement.Condition.TheFolds.{ind-Select, map-Condition, map-Join, map-Chain, map-Select}
use Rattle.sql_parse.specs.declared.statement.Join.{Join, out-Join, roll-Join, out-roll-Join}
use Rattle.sql_parse.specs.declared.statement.Chain.{Chain, out-Chain, roll-Chain, out-roll-Chain}
use Rattle.sql_parse.specs.declared.statement.Select.{Select, out-Select, roll-Select, out-roll-Select}
use Rattle.binder.specs.declared.extent.Extent.{Extent}
use Rattle.binder.specs.Extents.{all_of, of_condition, of_join, of_chain, of_select, of_filter, width_of, one_table as table_extent}
use Rattle.binder.specs.Lookups.{find_table}
use Rattle.binder.specs.Parts.{no_table, the_table, widths}
use Rattle.binder.specs.Analyses.{Content, all_contents, both, ConditionAnalysis, JoinAnalysis, ChainAnalysis, SelectAnalysis, condition_layer, condition_analysis, join_analysis, chain_analysis, select_analysis, filter_content, from_content, having_content}
use Rattle.binder.proofs.BoundConditions.{columns_of, columns-all}
use Rattle.binder.proofs.ExtentParts.{extent-Compare, extent-IsNull, extent-Not, extent-And, extent-Or, extent-Exists, extent-In, extent-join, extent-chain, extent-select}
use Rattle.binder.proofs.PartAnswers.{widths-append}
use Rattle.binder.proofs.AnalysisParts.{analysis-condition, analysis-join, analysis-chain, analysis-select}

width-is : (o : Option (ℕ × Table)) → width_of o ≡ length (unwrap_or o no_table).1.columns
width-is None = refl
width-is (Some found) = refl

module _ (S : Schema) where
  abbrev wide : Content → ℕ
  wide c = widths S c.tables

  abbrev ConditionWide : Condition → Type 0
  ConditionWide c = (of_condition S c).columns ≡ wide (condition_analysis S c).content

  abbrev JoinWide : Join → Type 0
  JoinWide j = (of_join S j).columns ≡ wide (join_analysis S j).content

  abbrev ChainWide : Chain → Type 0
  ChainWide c = (of_chain S c).columns ≡ wide (chain_analysis S c).content

  abbrev SelectWide : Select → Type 0
  SelectWide q = (of_select S q).columns ≡ wide (select_analysis S q).content

  -- parts one after the other
  all-wide : {A B : Type 0} (e : A → Extent) (analysis : A → B) (content : B → Content) (xs : List ((x : A) × ((e x).columns ≡ wide (content (analysis x)))))
      → columns_of (map e (map (λ x. x.0) xs)) ≡ wide (all_contents (map content (map analysis (map (λ x. x.0) xs))))
  all-wide e analysis content [] = refl
  all-wide e analysis content (x ∷ xs) =
      let one = x.1 in
      let others = all-wide e analysis content xs in
      let together = widths-append S (content (analysis x.0)).tables (all_contents (map content (map analysis (map (λ x. x.0) xs)))).tables in
      omega (arith, one, others, together)

  abbrev ProvedSelect : Type 0
  ProvedSelect = (q : Select) × SelectWide q

  abbrev ProvedChain : Type 0
  ProvedChain = (c : Chain) × ChainWide c

  abbrev ProvedJoin : Type 0
  ProvedJoin = (j : Join) × JoinWide j

  abbrev ProvedCondition : Type 0
  ProvedCondition = (c : Condition) × ConditionWide c

  abbrev filter_of : Option ProvedCondition → Option Condition
  filter_of None = None
  filter_of (Some c) = Some c.0

  -- the analysis of a form, whose columns are these
  form-wide : (x : Condition-F Condition Chain Join Select) (c : Condition) (is : roll-Condition x ≡ c) (n : ℕ) → (of_condition S c).columns ≡ n
      → n ≡ wide (condition_layer (map-Condition Condition Chain Join Select ConditionAnalysis ChainAnalysis JoinAnalysis SelectAnalysis (condition_analysis S) (chain_analysis S) (join_analysis S) (select_analysis S) x)).content → ConditionWide c
  form-wide x c is n first next = first ∙ next ∙ ap (λ (s : ConditionAnalysis). wide s.content) (sym (analysis-condition S x c is))

  condition-wide : (y : Condition-F ProvedCondition ProvedChain ProvedJoin ProvedSelect) → ConditionWide (roll-Condition (map-Condition _ _ _ _ Condition Chain Join Select (λ c. c.0) (λ c. c.0) (λ j. j.0) (λ q. q.0) y))
  condition-wide (Condition-F.Compare a op b) = subst ConditionWide (sym (tree.rolls-Compare a op b)) (form-wide (Condition-F.Compare a op b) _ (tree.rolls-Compare a op b) _ (ap (λ e. e.columns) (extent-Compare S a op b)) refl)
  condition-wide (Condition-F.IsNull a) = subst ConditionWide (sym (tree.rolls-IsNull a)) (form-wide (Condition-F.IsNull a) _ (tree.rolls-IsNull a) _ (ap (λ e. e.columns) (extent-IsNull S a)) refl)
  condition-wide (Condition-F.Not c) = subst ConditionWide (sym (tree.rolls-Not c.0)) (form-wide (Condition-F.Not c.0) _ (tree.rolls-Not c.0) _ (ap (λ e. e.columns) (extent-Not S c.0)) c.1)
  condition-wide (Condition-F.And cs) =
      let ds = map (λ c. c.0) cs in
      subst ConditionWide (sym (tree.rolls-And ds))
      (form-wide (Condition-F.And ds) _ (tree.rolls-And ds) _ (ap (λ e. e.columns) (extent-And S ds) ∙ columns-all (map (of_condition S) ds)) (all-wide (of_condition S) (condition_analysis S) (λ c. c.content) cs))
  condition-wide (Condition-F.Or cs) =
      let ds = map (λ c. c.0) cs in
      subst ConditionWide (sym (tree.rolls-Or ds))
      (form-wide (Condition-F.Or ds) _ (tree.rolls-Or ds) _ (ap (λ e. e.columns) (extent-Or S ds) ∙ columns-all (map (of_condition S) ds)) (all-wide (of_condition S) (condition_analysis S) (λ c. c.content) cs))
  condition-wide (Condition-F.Exists q) =
      let one = q.1 in
      subst ConditionWide (sym (tree.rolls-Exists q.0)) (form-wide (Condition-F.Exists q.0) _ (tree.rolls-Exists q.0) _ (ap (λ e. e.columns) (extent-Exists S q.0)) (omega (arith, one)))
  condition-wide (Condition-F.In a at q) =
      let one = q.1 in
      subst ConditionWide (sym (tree.rolls-In a at q.0)) (form-wide (Condition-F.In a at q.0) _ (tree.rolls-In a at q.0) _ (ap (λ e. e.columns) (extent-In S a at q.0)) (omega (arith, one)))

  join-wide : (j : Join) → ConditionWide (out-Join j).condition → JoinWide j
  join-wide j on =
      let table = width-is (find_table 0 S.tables (out-Join j).table.name.text) in
      let sum : (table_extent S (out-Join j).table).columns + (of_condition S (out-Join j).condition).columns
      ≡ length (the_table S (out-Join j).table).1.columns + wide (condition_analysis S (out-Join j).condition).content = omega (arith, table, on) in
      ap (λ e. e.columns) (extent-join S j) ∙ sum ∙ ap (λ (s : JoinAnalysis). wide s.content) (sym (analysis-join S j))

  chain-wide : (c : Chain) (joins : List ProvedJoin) → map (λ j. j.0) joins ≡ (out-Chain c).joins → ChainWide c
  chain-wide c joins same =
      let table = width-is (find_table 0 S.tables (out-Chain c).table.name.text) in
      let others = columns-all (map (of_join S) (out-Chain c).joins) in
      let parts : columns_of (map (of_join S) (out-Chain c).joins) ≡ wide (all_contents (map (λ (j : JoinAnalysis). j.content) (map (join_analysis S) (out-Chain c).joins)))
      = subst (λ js. columns_of (map (of_join S) js) ≡ wide (all_contents (map (λ (j : JoinAnalysis). j.content) (map (join_analysis S) js)))) same (all-wide (of_join S) (join_analysis S) (λ j. j.content) joins) in
      let sum : (table_extent S (out-Chain c).table).columns + (all_of (map (of_join S) (out-Chain c).joins)).columns
      ≡ length (the_table S (out-Chain c).table).1.columns + wide (all_contents (map (λ (j : JoinAnalysis). j.content) (map (join_analysis S) (out-Chain c).joins))) = omega (arith, table, others, parts) in
      ap (λ e. e.columns) (extent-chain S c) ∙ sum ∙ ap (λ (s : ChainAnalysis). wide s.content) (sym (analysis-chain S c))

  filter-wide : (w : Option ProvedCondition) → (of_filter (option_map (of_condition S) (filter_of w))).columns ≡ wide (filter_content (option_map (condition_analysis S) (filter_of w)))
  filter-wide None = refl
  filter-wide (Some c) = c.1

  select-wide : (q : Select) (chains : List ProvedChain) (w : Option ProvedCondition) → map (λ c. c.0) chains ≡ (out-Select q).from → filter_of w ≡ (out-Select q).filter → SelectWide q
  select-wide q chains w from_is filter_is =
      let x = out-Select q in
      let others = columns-all (map (of_chain S) x.from) in
      let from : columns_of (map (of_chain S) x.from) ≡ wide (from_content (map (chain_analysis S) x.from))
      = subst (λ cs. columns_of (map (of_chain S) cs) ≡ wide (from_content (map (chain_analysis S) cs))) from_is (all-wide (of_chain S) (chain_analysis S) (λ c. c.content) chains) in
      let where_ : (of_filter (option_map (of_condition S) x.filter)).columns ≡ wide (filter_content (option_map (condition_analysis S) x.filter))
      = subst (λ o. (of_filter (option_map (of_condition S) o)).columns ≡ wide (filter_content (option_map (condition_analysis S) o))) filter_is (filter-wide w) in
      let filters = filter_content (option_map (condition_analysis S) x.filter) in
      let inside = both filters (having_content x.having) in
      let together = widths-append S (from_content (map (chain_analysis S) x.from)).tables inside.tables in
      let alone = widths-append S filters.tables [] in
      let sum : (all_of (map (of_chain S) x.from)).columns + (of_filter (option_map (of_condition S) x.filter)).columns
      ≡ wide (both (from_content (map (chain_analysis S) x.from)) inside) = omega (arith, others, from, where_, together, alone) in
      ap (λ e. e.columns) (extent-select S q) ∙ sum ∙ ap (λ (s : SelectAnalysis). wide s.content) (sym (analysis-select S q))

  select-by : (y : Select-F ProvedCondition ProvedChain ProvedJoin ProvedSelect) (w : Option ProvedCondition)
      → SelectWide (roll-Select (map-Select _ _ _ _ Condition Chain Join Select (λ c. c.0) (λ c. c.0) (λ j. j.0) (λ q. q.0) (record y { filter = w })))
  select-by y None =
      let z = map-Select _ _ _ _ Condition Chain Join Select (λ c. c.0) (λ c. c.0) (λ j. j.0) (λ q. q.0) (record y { filter = None }) in
      select-wide (roll-Select z) y.from None (sym (ap (λ x. x.from) (out-roll-Select z))) (sym (ap (λ x. x.filter) (out-roll-Select z)))
  select-by y (Some c) =
      let z = map-Select _ _ _ _ Condition Chain Join Select (λ c. c.0) (λ c. c.0) (λ j. j.0) (λ q. q.0) (record y { filter = Some c }) in
      select-wide (roll-Select z) y.from (Some c) (sym (ap (λ x. x.from) (out-roll-Select z))) (sym (ap (λ x. x.filter) (out-roll-Select z)))

  join-by : (y : Join-F ProvedCondition ProvedChain ProvedJoin ProvedSelect) → JoinWide (roll-Join (map-Join _ _ _ _ Condition Chain Join Select (λ c. c.0) (λ c. c.0) (λ j. j.0) (λ q. q.0) y))
  join-by y =
      let z = map-Join _ _ _ _ Condition Chain Join Select (λ c. c.0) (λ c. c.0) (λ j. j.0) (λ q. q.0) y in
      join-wide (roll-Join z) (subst ConditionWide (sym (ap (λ x. x.condition) (out-roll-Join z))) y.condition.1)

  chain-by : (y : Chain-F ProvedCondition ProvedChain ProvedJoin ProvedSelect) → ChainWide (roll-Chain (map-Chain _ _ _ _ Condition Chain Join Select (λ c. c.0) (λ c. c.0) (λ j. j.0) (λ q. q.0) y))
  chain-by y =
      let z = map-Chain _ _ _ _ Condition Chain Join Select (λ c. c.0) (λ c. c.0) (λ j. j.0) (λ q. q.0) y in
      chain-wide (roll-Chain z) y.joins (sym (ap (λ x. x.joins) (out-roll-Chain z)))

  -- of each SELECT, wherever it stands
  pub selects-wide : (q : Select) → (of_select S q).columns ≡ widths S (select_analysis S q).content.tables
  selects-wide = ind-Select ConditionWide ChainWide JoinWide SelectWide
      (λ x y is. subst (λ z. ConditionWide (roll-Condition z)) is (condition-wide y))
      (λ x y is. subst (λ z. ChainWide (roll-Chain z)) is (chain-by y))
      (λ x y is. subst (λ z. JoinWide (roll-Join z)) is (join-by y))
      (λ x y is. subst (λ z. SelectWide (roll-Select z)) is (select-by y y.filter))
