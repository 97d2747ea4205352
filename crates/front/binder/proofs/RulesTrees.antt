-- A condition, a FROM or a SELECT by the rules, numbered in the order of the text, is what it means, and has no fault.
use Rattle.std.proofs.Common.{◌≡◌, refl, sym, ◌∙◌, ap, subst, ℕ, true, List, [], ◌∷◌, ◌++◌, flat_map, map, Option, Some, None, option_map, append_assoc, append-nil, Bool}
use Rattle.schema.specs.declared.schema.Schema.{Schema}
use Rattle.schema.specs.Each.{Pairs}
use Rattle.sql_parse.specs.declared.statement.Chain.{Chain, out-Chain}
use Rattle.sql_parse.specs.declared.statement.Condition.{Condition}
use Rattle.sql_parse.specs.declared.statement.Condition.TheVariants as tree
use Rattle.sql_parse.specs.declared.statement.Condition.TheOpen.{Condition-F}
use Rattle.sql_parse.specs.declared.statement.Join.{Join, out-Join}
use Rattle.sql_parse.specs.declared.statement.Operator.{Operator}
use Rattle.sql_parse.specs.declared.statement.HavingCondition.{HavingCondition}
use Rattle.sql_parse.specs.declared.statement.Select.{Select, out-Select}
use Rattle.sql_parse.specs.declared.statement.TableName.{TableName}
use Rattle.sql_parse.specs.declared.statement.Term as terms
use Rattle.query.specs.declared.query.Cond.{Cond}
use Rattle.query.specs.declared.query.Cond.TheVariants as cond
use Rattle.query.specs.declared.query.From.{From}
use Rattle.query.specs.declared.query.From.TheVariants as from
use Rattle.query.specs.declared.query.TableReference.{TableReference}
use Rattle.query.specs.declared.query.Item.{Item}
use Rattle.query.specs.Bound.{aggregate_numbers}
use Rattle.binder.specs.declared.fault.BindRefusal.{BindRefusal}
use Rattle.binder.specs.declared.output.Output.{Output}
use Rattle.binder.specs.declared.selects.BoundSelect.{BoundSelect}
use Rattle.binder.specs.declared.selects.BoundTerm.{BoundTerm}
use Rattle.binder.specs.Analyses.{Before, Content, behind, both, ConditionAnalysis, JoinAnalysis, ChainAnalysis, SelectAnalysis, all_become, one_table, joins_faults, joins_become, chains_faults, commas_become, from_faults, from_becomes, from_content, filter_faults, filter_becomes, scope_of_from, select_layer, condition_analysis, join_analysis, chain_analysis, select_analysis, having_faults, filter_content}
use Rattle.binder.specs.Outputs.{aggregates, is_grouped}
use Rattle.binder.specs.Parts.{is_one, first_kind, key_faults, known, list_faults, shown, the_key, the_reference, the_term, the_asked}
use Rattle.binder.specs.Rules.{BindsTerm, BindsKey, BindsList, BindsTable, BindsCondition, BindsConditions, BindsJoins, BindsChain, BindsCommas, BindsFilter, BindsSelect, BindsHaving}
use Rattle.binder.specs.Scopes.{Known, Scope, Scopes}
use Rattle.binder.specs.Kinds.{are_comparable}
use Rattle.binder.specs.Selects.{block_of, joined}
use Rattle.binder.specs.TextNumbers.{Listing, no_listing, one_listing, both_listings, all_listings, filter_listing, cond_listing, from_listing, block_listing, items_listing}
use Rattle.binder.specs.HavingShapes.{having_becomes, having_values}
use Rattle.binder.proofs.AnalysisAnswers.{bound_select, has-kinds}
use Rattle.binder.proofs.AnalysisNumbers.{both-assoc, both-none, both-listed, listing-joined, of_content, shown-numbers}
use Rattle.binder.proofs.AnalysisParts.{analysis-condition, analysis-join, analysis-chain, select_parts, analysis-select}
use Rattle.binder.proofs.ListingEquations.{listing-Not, listing-And, listing-Or, listing-Exists, listing-In, listing-Table, listing-Comma, listing-Block}
use Rattle.binder.proofs.NumberedStatements.{conditions-listed, chains-listed, froms-listed, filters-listed}
use Rattle.binder.proofs.RulesOnly.{Runs, runs-left, runs-right, term-only, keys-only, list-only, table-only, having-only}
use Rattle.binder.proofs.Requirements.{required, no-faults}
use Rattle.binder.proofs.HavingShapes.{placed-none}

module _ (S : Schema) where
  -- ---- the claims

  abbrev Analysed : Scopes → Before → Cond → ConditionAnalysis → Type 0
  Analysed scopes b x analysis = (analysis.faults scopes ≡ []) × (x ≡ analysis.becomes scopes b)

  abbrev ConditionOnly : Scopes → Condition → Cond → Type 0
  ConditionOnly scopes c x = (b : Before) → Runs b (cond_listing x) → Analysed scopes b x (condition_analysis S c)

  abbrev ConditionsOnly : Scopes → List Condition → List Cond → Type 0
  ConditionsOnly scopes cs xs = (b : Before) → Runs b (all_listings (map cond_listing xs))
      → (flat_map (λ c. c.faults scopes) (map (condition_analysis S) cs) ≡ []) × (xs ≡ all_become scopes b (map (condition_analysis S) cs))

  abbrev JoinsOnly : Scopes → Scope → Scope → From → List Join → Scope → From → Type 0
  JoinsOnly outer others chain left js all whole = (rest : Listing) × (from_listing whole ≡ both_listings (from_listing left) rest) × ((b : Before) → Runs b rest
      → (joins_faults S outer others chain (map (join_analysis S) js) ≡ []) × (whole ≡ joins_become S outer chain b left (map (join_analysis S) js))
      × (all ≡ chain ++ map (λ j. known S j.table) (map (join_analysis S) js)))

  abbrev ChainIsOnly : Scopes → Scope → Scope → From → Before → ChainAnalysis → Type 0
  ChainIsOnly outer others all whole b analysis = (analysis.faults outer others ≡ []) × (whole ≡ analysis.becomes outer b) × (all ≡ analysis.scope)

  abbrev ChainOnly : Scopes → Scope → Chain → Scope → From → Type 0
  ChainOnly outer others c all whole = (b : Before) → Runs b (from_listing whole) → ChainIsOnly outer others all whole b (chain_analysis S c)

  abbrev CommasOnly : Scopes → Scope → From → List Chain → Scope → From → Type 0
  CommasOnly outer scope left cs all whole = (rest : Listing) × (from_listing whole ≡ both_listings (from_listing left) rest) × ((b : Before) → Runs b rest
      → (chains_faults outer scope (map (chain_analysis S) cs) ≡ []) × (whole ≡ commas_become outer b left (map (chain_analysis S) cs))
      × (all ≡ scope ++ scope_of_from (map (chain_analysis S) cs)))

  abbrev FilterOnly : Scopes → Option Condition → Option Cond → Type 0
  FilterOnly scopes w x = (b : Before) → Runs b (filter_listing (option_map cond_listing x))
      → (filter_faults scopes (option_map (condition_analysis S) w) ≡ []) × (x ≡ filter_becomes scopes b (option_map (condition_analysis S) w))

  abbrev SelectIsOnly : Scopes → BoundSelect → Before → SelectAnalysis → Type 0
  SelectIsOnly outer r b analysis = (analysis.faults outer ≡ []) × (r ≡ bound_select S analysis outer b)

  abbrev SelectOnly : Scopes → Select → BoundSelect → Type 0
  SelectOnly outer q r = (b : Before) → Runs b (block_listing r.block) → SelectIsOnly outer r b (select_analysis S q)

  -- ---- conditions

  module _ (scopes : Scopes) (c : Condition) (x : Cond) where
    only-comparison : (a b : terms.Term) (op : Operator) (l r : BoundTerm) → c ≡ tree.Compare a op b → BindsTerm scopes a l → BindsTerm scopes b r → are_comparable l.kind r.kind ≡ true
        → x ≡ cond.Compare op.comparison l.term r.term → ConditionOnly scopes c x
    only-comparison a b op l r form left right fit is n runs =
        let first = term-only scopes a l left in
        let second = term-only scopes b r right in
        let fits : are_comparable (the_term scopes a).kind (the_term scopes b).kind ≡ true = ap (λ k. are_comparable k (the_term scopes b).kind) (sym (ap (λ (t : BoundTerm). t.kind) first.1)) ∙ ap (are_comparable l.kind) (sym (ap (λ (t : BoundTerm). t.kind) second.1)) ∙ fit in
        subst (Analysed scopes n x) (sym (analysis-condition S (Condition-F.Compare a op b) c (tree.rolls-Compare a op b ∙ sym form))) (
          no-faults _ _ first.0 (no-faults _ _ second.0 (required _ _ op.at fits)),
          is ∙ ap (λ (t : BoundTerm). cond.Compare op.comparison t.term r.term) first.1 ∙ ap (λ (t : BoundTerm). cond.Compare op.comparison (the_term scopes a).term t.term) second.1,
        )

    only-null_test : (a : terms.Term) (l : BoundTerm) → c ≡ tree.IsNull a → BindsTerm scopes a l → x ≡ cond.IsNull l.term → ConditionOnly scopes c x
    only-null_test a l form left is n runs =
        let first = term-only scopes a l left in
        subst (Analysed scopes n x) (sym (analysis-condition S (Condition-F.IsNull a) c (tree.rolls-IsNull a ∙ sym form))) (first.0, is ∙ ap (λ (t : BoundTerm). cond.IsNull t.term) first.1)

    only-negation : (d : Condition) (y : Cond) → c ≡ tree.Not d → ConditionOnly scopes d y → x ≡ cond.Not y → ConditionOnly scopes c x
    only-negation d y form part is n runs =
        let one = part n (subst (Runs n) (ap cond_listing is ∙ listing-Not y) runs) in
        subst (Analysed scopes n x) (sym (analysis-condition S (Condition-F.Not d) c (tree.rolls-Not d ∙ sym form))) (one.0, is ∙ ap (λ z. cond.Not z) one.1)

    only-conjunction : (ds : List Condition) (ys : List Cond) → c ≡ tree.And ds → ConditionsOnly scopes ds ys → x ≡ cond.And ys → ConditionOnly scopes c x
    only-conjunction ds ys form parts is n runs =
        let all = parts n (subst (Runs n) (ap cond_listing is ∙ listing-And ys) runs) in
        subst (Analysed scopes n x) (sym (analysis-condition S (Condition-F.And ds) c (tree.rolls-And ds ∙ sym form))) (all.0, is ∙ ap (λ zs. cond.And zs) all.1)

    only-disjunction : (ds : List Condition) (ys : List Cond) → c ≡ tree.Or ds → ConditionsOnly scopes ds ys → x ≡ cond.Or ys → ConditionOnly scopes c x
    only-disjunction ds ys form parts is n runs =
        let all = parts n (subst (Runs n) (ap cond_listing is ∙ listing-Or ys) runs) in
        subst (Analysed scopes n x) (sym (analysis-condition S (Condition-F.Or ds) c (tree.rolls-Or ds ∙ sym form))) (all.0, is ∙ ap (λ zs. cond.Or zs) all.1)

    only-existence : (q : Select) (r : BoundSelect) → c ≡ tree.Exists q → SelectOnly scopes q r → x ≡ cond.Exists r.block → ConditionOnly scopes c x
    only-existence q r form query is n runs =
        let one = query n (subst (Runs n) (ap cond_listing is ∙ listing-Exists r.block) runs) in
        subst (Analysed scopes n x) (sym (analysis-condition S (Condition-F.Exists q) c (tree.rolls-Exists q ∙ sym form))) (one.0, is ∙ ap (λ (z : BoundSelect). cond.Exists z.block) one.1)

    only-membership : (a : terms.Term) (at : ℕ) (q : Select) (l : BoundTerm) (r : BoundSelect) (o : Output) → c ≡ tree.In a at q → BindsTerm scopes a l → SelectOnly scopes q r → r.outputs ≡ o ∷ []
        → are_comparable l.kind (Some o.kind) ≡ true → x ≡ cond.In l.term r.block → ConditionOnly scopes c x
    only-membership a at q l r o form left query single fit is n runs =
        let analysis = select_analysis S q in
        let first = term-only scopes a l left in
        let one = query n (subst (Runs n) (ap cond_listing is ∙ listing-In l.term r.block) runs) in
        let kinds : analysis.kinds scopes ≡ o.kind ∷ [] = sym (has-kinds S q scopes n.aggregates) ∙ ap (λ (z : BoundSelect). map (λ o. o.kind) z.outputs) (sym one.1) ∙ ap (λ os. map (λ o. o.kind) os) single in
        let fits : are_comparable (the_term scopes a).kind (first_kind (analysis.kinds scopes)) ≡ true = ap (λ ks. are_comparable (the_term scopes a).kind (first_kind ks)) kinds ∙ ap (λ (t : BoundTerm). are_comparable t.kind (Some o.kind)) (sym first.1) ∙ fit in
        subst (Analysed scopes n x) (sym (analysis-condition S (Condition-F.In a at q) c (tree.rolls-In a at q ∙ sym form))) (
          no-faults _ _ first.0 (no-faults _ _ one.0 (no-faults _ _ (required _ _ at (ap is_one kinds)) (required _ _ at fits))),
          is ∙ ap (λ (t : BoundTerm). cond.In t.term r.block) first.1 ∙ ap (λ (z : BoundSelect). cond.In (the_term scopes a).term z.block) one.1,
        )

  pub only-conditions : (scopes : Scopes) (c : Condition) (cs : List Condition) (x : Cond) (xs : List Cond) → ConditionOnly scopes c x → ConditionsOnly scopes cs xs → ConditionsOnly scopes (c ∷ cs) (x ∷ xs)
  only-conditions scopes c cs x xs one others b runs =
      let analysis = condition_analysis S c in
      let first = one b (runs-left b (cond_listing x) (all_listings (map cond_listing xs)) runs) in
      let listed = ap cond_listing first.1 ∙ conditions-listed S c scopes b first.0 in
      let rest = others (behind b analysis.content) (runs-right S b (cond_listing x) (all_listings (map cond_listing xs)) analysis.content runs listed) in
      let is = first.1 in
      let are = rest.1 in
      let all : x ∷ xs ≡ analysis.becomes scopes b ∷ all_become scopes (behind b analysis.content) (map (condition_analysis S) cs) = cc in
      (no-faults _ _ first.0 rest.0, all)

  -- ---- FROM

  pub only-no-join : (outer : Scopes) (others chain : Scope) (left : From) → JoinsOnly outer others chain left [] chain left
  only-no-join outer others chain left = (no_listing, sym (both-none (from_listing left)), λ b runs. (refl, refl, sym (append-nil chain)))

  pub only-join : (outer : Scopes) (others chain : Scope) (left : From) (j : Join) (o : TableReference) (k : Known) (on : Cond) (js : List Join) (all : Scope) (whole : From)
      → BindsTable S (others ++ chain) (out-Join j).table o k → ConditionOnly ((chain ++ k ∷ []) ∷ outer) (out-Join j).condition on
      → JoinsOnly outer others (chain ++ k ∷ []) (joined (out-Join j).kind left o on) js all whole → JoinsOnly outer others chain left (j ∷ js) all whole
  only-join outer others chain left j o k on js all whole table condition (rest, split, more) = (further, split_here, go) where
    right : Listing
    right = both_listings (one_listing o) (cond_listing on)

    further : Listing
    further = both_listings right rest

    split_here : from_listing whole ≡ both_listings (from_listing left) further
    split_here = split ∙ ap (λ x. both_listings x rest) (listing-joined (out-Join j).kind left o on) ∙ both-assoc (from_listing left) right rest

    t : TableName
    t = (out-Join j).table

    joins_end : Scopes → Scope → Scope → From → List Join → Scope → From → Before → JoinAnalysis → Type 0
    joins_end outer others chain left js all whole b analysis = (analysis.faults outer others chain ++ joins_faults S outer others (chain ++ known S analysis.table ∷ []) (map (join_analysis S) js) ≡ [])
        × (whole ≡ joins_become S outer (chain ++ known S analysis.table ∷ []) (behind b analysis.content) (analysis.becomes outer chain b left) (map (join_analysis S) js))
        × (all ≡ chain ++ known S analysis.table ∷ map (λ j. known S j.table) (map (join_analysis S) js))

    go : (b : Before) → Runs b further → joins_end outer others chain left js all whole b (join_analysis S j)
    go b runs =
        let analysis = condition_analysis S (out-Join j).condition in
        let near = runs-left b right rest runs in
        let entered = table-only S (others ++ chain) t o k b table (runs-left b (one_listing o) (cond_listing on) near) in
        let at : one_listing o ≡ of_content S b (one_table S t) = ap one_listing entered.1 in
        let inside : Before = behind b (one_table S t) in
        let one = condition inside (runs-right S b (one_listing o) (cond_listing on) (one_table S t) near at) in
        let scopes : Scopes = (chain ++ known S t ∷ []) ∷ outer in
        let same : (chain ++ k ∷ []) ∷ outer ≡ scopes = ap (λ k. (chain ++ k ∷ []) ∷ outer) entered.2 in
        let quiet : analysis.faults scopes ≡ [] = ap analysis.faults (sym same) ∙ one.0 in
        let on_is : on ≡ analysis.becomes scopes inside = one.1 ∙ ap (λ s. analysis.becomes s inside) same in
        let listed : cond_listing on ≡ of_content S inside analysis.content = ap cond_listing on_is ∙ conditions-listed S (out-Join j).condition scopes inside quiet in
        let pair : right ≡ of_content S b (both (one_table S t) analysis.content) = ap (λ x. both_listings x (cond_listing on)) at ∙ ap (both_listings (of_content S b (one_table S t))) listed ∙ both-listed S b (one_table S t) analysis.content in
        let tail = more (behind b (both (one_table S t) analysis.content)) (runs-right S b right rest (both (one_table S t) analysis.content) runs pair) in
        let kind = (out-Join j).kind in
        let further_left : joined kind left o on ≡ joined kind left (the_reference S b.tables t) (analysis.becomes scopes inside) = ap (λ o. joined kind left o on) entered.1 ∙ ap (joined kind left (the_reference S b.tables t)) on_is in
        let known_is = entered.2 in
        subst (joins_end outer others chain left js all whole b) (sym (analysis-join S j)) (
          no-faults _ _ (no-faults _ _ entered.0 quiet) (ap (λ k. joins_faults S outer others (chain ++ k ∷ []) (map (join_analysis S) js)) (sym known_is) ∙ tail.0),
          tail.1 ∙ ap (λ k. joins_become S outer (chain ++ k ∷ []) (behind b (both (one_table S t) analysis.content)) (joined kind left o on) (map (join_analysis S) js)) known_is
              ∙ ap (λ f. joins_become S outer (chain ++ known S t ∷ []) (behind b (both (one_table S t) analysis.content)) f (map (join_analysis S) js)) further_left,
          tail.2 ∙ append_assoc chain (k ∷ []) (map (λ j. known S j.table) (map (join_analysis S) js)) ∙ ap (λ k. chain ++ k ∷ map (λ j. known S j.table) (map (join_analysis S) js)) known_is,
        )

  pub only-chain : (outer : Scopes) (others : Scope) (c : Chain) (o : TableReference) (k : Known) (all : Scope) (whole : From) → BindsTable S others (out-Chain c).table o k
      → JoinsOnly outer others (k ∷ []) (from.Table o) (out-Chain c).joins all whole → ChainOnly outer others c all whole
  only-chain outer others c o k all whole table (rest, split, more) b runs =
      let t = (out-Chain c).table in
      let analyses = map (join_analysis S) (out-Chain c).joins in
      let halves : from_listing whole ≡ both_listings (one_listing o) rest = split ∙ ap (λ x. both_listings x rest) (listing-Table o) in
      let parts = subst (Runs b) halves runs in
      let entered = table-only S others t o k b table (runs-left b (one_listing o) rest parts) in
      let at : one_listing o ≡ of_content S b (one_table S t) = ap one_listing entered.1 in
      let inside : Before = behind b (one_table S t) in
      let tail = more inside (runs-right S b (one_listing o) rest (one_table S t) parts at) in
      let known_is = entered.2 in
      subst (ChainIsOnly outer others all whole b) (sym (analysis-chain S c)) (
        no-faults _ _ entered.0 (ap (λ k. joins_faults S outer others (k ∷ []) analyses) (sym known_is) ∙ tail.0),
        tail.1 ∙ ap (λ k. joins_become S outer (k ∷ []) inside (from.Table o) analyses) known_is ∙ ap (λ o. joins_become S outer (known S t ∷ []) inside (from.Table o) analyses) entered.1,
        tail.2 ∙ ap (λ k. k ∷ map (λ j. known S j.table) analyses) known_is,
      )

  pub only-no-comma : (outer : Scopes) (scope : Scope) (left : From) → CommasOnly outer scope left [] scope left
  only-no-comma outer scope left = (no_listing, sym (both-none (from_listing left)), λ b runs. (refl, refl, sym (append-nil scope)))

  pub only-comma : (outer : Scopes) (scope right all : Scope) (left next whole : From) (c : Chain) (cs : List Chain) → ChainOnly outer scope c right next
      → CommasOnly outer (scope ++ right) (from.Comma left next) cs all whole → CommasOnly outer scope left (c ∷ cs) all whole
  only-comma outer scope right all left next whole c cs one (rest, split, more) = (both_listings (from_listing next) rest, split_here, go) where
    split_here : from_listing whole ≡ both_listings (from_listing left) (both_listings (from_listing next) rest)
    split_here = split ∙ ap (λ x. both_listings x rest) (listing-Comma left next) ∙ both-assoc (from_listing left) (from_listing next) rest

    analyses : List ChainAnalysis
    analyses = map (chain_analysis S) cs

    go : (b : Before) → Runs b (both_listings (from_listing next) rest)
        → ((chain_analysis S c).faults outer scope ++ chains_faults outer (scope ++ (chain_analysis S c).scope) analyses ≡ [])
        × (whole ≡ commas_become outer (behind b (chain_analysis S c).content) (from.Comma left ((chain_analysis S c).becomes outer b)) analyses)
        × (all ≡ scope ++ ((chain_analysis S c).scope ++ scope_of_from analyses))
    go b runs =
        let analysis = chain_analysis S c in
        let first = one b (runs-left b (from_listing next) rest runs) in
        let listed = ap from_listing first.1 ∙ chains-listed S c outer scope b first.0 in
        let tail = more (behind b analysis.content) (runs-right S b (from_listing next) rest analysis.content runs listed) in (
          no-faults _ _ first.0 (ap (λ s. chains_faults outer (scope ++ s) analyses) (sym first.2) ∙ tail.0),
          tail.1 ∙ ap (λ f. commas_become outer (behind b analysis.content) (from.Comma left f) analyses) first.1,
          tail.2 ∙ append_assoc scope right (scope_of_from analyses) ∙ ap (λ s. scope ++ (s ++ scope_of_from analyses)) first.2,
        )

  -- ---- SELECT

  only-no-filter : (scopes : Scopes) → FilterOnly scopes None None
  only-no-filter scopes b runs = (refl, refl)

  only-filter : (scopes : Scopes) (c : Condition) (x : Cond) → ConditionOnly scopes c x → FilterOnly scopes (Some c) (Some x)
  only-filter scopes c x condition b runs = let one = condition b runs in (one.0, ap (λ z. Some z) one.1)

  abbrev grouped_by : Select → List ℕ → Bool
  grouped_by q keys = is_grouped keys (out-Select q).list (out-Select q).having

  abbrev made : Select → From → Option Cond → List ℕ → List Item → List Output → Scope → BoundSelect
  made q sources where_ keys asked outputs scope =
      record { block = block_of (out-Select q).distinct sources where_ (grouped_by q keys) keys (out-Select q).having asked outputs; outputs = outputs; scope = scope }

  abbrev items_listed : List Output → Listing
  items_listed outputs = items_listing (map (λ o. o.item) outputs)

  having-none : (having : Option HavingCondition) → filter_listing (option_map cond_listing (having_becomes having)) ≡ no_listing
  having-none None = refl
  having-none (Some h) = placed-none h 0

  abbrev keys_in : Select → Scopes → List ℕ
  keys_in q scopes = map (the_key scopes) (out-Select q).group

  -- what is said of a SELECT, whose own FROM has these tables
  abbrev select_faults : Select → Scopes → List ChainAnalysis → Scope → List ℕ → List BindRefusal
  select_faults q outer chains scope keys =
      from_faults outer chains ++ (filter_faults (scope ∷ outer) (option_map (condition_analysis S) (out-Select q).filter)
      ++ (flat_map (key_faults (scope ∷ outer)) (out-Select q).group ++ (having_faults (scope ∷ outer) keys (out-Select q).having ++ list_faults scope (scope ∷ outer) (grouped_by q keys) keys (out-Select q).list)))

  only-select : (outer : Scopes) (q : Select) (r : BoundSelect) (c : Chain) (cs : List Chain) (first scope : Scope) (left sources : From) (where_ : Option Cond) (keys : List ℕ) (asked : List Item) (outputs : List Output)
      → (out-Select q).from ≡ c ∷ cs → ChainOnly outer [] c first left → CommasOnly outer first left cs scope sources → FilterOnly (scope ∷ outer) (out-Select q).filter where_
      → Pairs (BindsKey (scope ∷ outer)) (out-Select q).group keys → BindsHaving (scope ∷ outer) keys (out-Select q).having asked → BindsList scope (scope ∷ outer) (grouped_by q keys) keys (out-Select q).list outputs
      → r ≡ made q sources where_ keys asked outputs scope → SelectOnly outer q r
  only-select outer q r c cs first scope left sources where_ keys asked outputs from_is chain (rest, split, more) filter group having list is b runs =
      let x = out-Select q in
      let ca = chain_analysis S c in
      let others = map (chain_analysis S) cs in
      let all = map (chain_analysis S) (c ∷ cs) in
      let filters = option_map (condition_analysis S) x.filter in
      let own : Content = record { tables = []; aggregates = aggregates x.list } in
      let inside : Before = behind b own in
      let further : Before = behind inside (from_content all) in
      let items : Listing = items_listed outputs in
      let source : Listing = from_listing sources in
      let filtered : Listing = filter_listing (option_map cond_listing where_) in
      let asks : Listing = both_listings (filter_listing (option_map cond_listing (having_becomes x.having))) (items_listing asked) in
      let inner : Listing = both_listings source (both_listings filtered asks) in
      let last : Before = behind further (filter_content filters) in
      let parts = subst (Runs b) (ap (λ (z : BoundSelect). block_listing z.block) is ∙ listing-Block (block_of x.distinct sources where_ (grouped_by q keys) keys x.having asked outputs)) runs in
      let mine = runs-left b items inner parts in
      let listed = list-only scope (scope ∷ outer) (grouped_by q keys) keys x.list outputs b.aggregates list mine.1 in
      let items_are : items ≡ of_content S b own = ap items_listed listed.1 ∙ ap (λ ns. numbers_listed ns) (shown-numbers scope (scope ∷ outer) b.aggregates x.list) in
      let behind_items = runs-right S b items inner own parts items_are in
      let whole = subst (Runs inside) split (runs-left inside source (both_listings filtered asks) behind_items) in
      let one = chain inside (runs-left inside (from_listing left) rest whole) in
      let left_is = ap from_listing one.1 ∙ chains-listed S c outer [] inside one.0 in
      let tail = more (behind inside ca.content) (runs-right S inside (from_listing left) rest ca.content whole left_is) in
      let quiet : from_faults outer all ≡ [] = no-faults _ _ one.0 (ap (λ s. chains_faults outer s others) (sym one.2) ∙ tail.0) in
      let sources_are : sources ≡ from_becomes outer inside all = tail.1 ∙ ap (λ f. commas_become outer (behind inside ca.content) f others) one.1 in
      let source_is : source ≡ of_content S inside (from_content all) = ap from_listing sources_are ∙ froms-listed S (c ∷ cs) outer inside quiet in
      let behind_source = runs-right S inside source (both_listings filtered asks) (from_content all) behind_items source_is in
      let test = filter further (runs-left further filtered asks behind_source) in
      let filtered_is : filtered ≡ of_content S further (filter_content filters) = ap (λ w. filter_listing (option_map cond_listing w)) test.1 ∙ filters-listed S (scope ∷ outer) x.filter further test.0 in
      let behind_filter = runs-right S further filtered asks (filter_content filters) behind_source filtered_is in
      let asks_items : asks ≡ items_listing asked = ap (λ l. both_listings l (items_listing asked)) (having-none x.having) in
      let named = having-only (scope ∷ outer) keys last.aggregates x.having asked having (subst (Runs last) asks_items behind_filter).1 in
      let grouped = keys-only (scope ∷ outer) x.group keys group in
      let scope_is : scope ≡ scope_of_from all = tail.2 ∙ ap (λ s. s ++ scope_of_from others) one.2 in
      let none : select_faults q outer all scope (keys_in q (scope ∷ outer)) ≡ [] =
      subst (λ ks. select_faults q outer all scope ks ≡ []) grouped.1 (no-faults _ _ quiet (no-faults _ _ test.0 (no-faults _ _ grouped.0 (no-faults _ _ named.0 listed.0)))) in
      let asked_in : Scope → List Item = λ s. the_asked (s ∷ outer) last.aggregates (having_values x.having) in
      let r_is : r ≡ made q (from_becomes outer inside all) (filter_becomes (scope ∷ outer) further filters) (keys_in q (scope ∷ outer)) (asked_in scope) (shown scope (scope ∷ outer) b.aggregates x.list) scope =
      is ∙ ap (λ s. made q s where_ keys asked outputs scope) sources_are ∙ ap (λ w. made q (from_becomes outer inside all) w keys asked outputs scope) test.1
      ∙ ap (λ ks. made q (from_becomes outer inside all) (filter_becomes (scope ∷ outer) further filters) ks asked outputs scope) grouped.1
      ∙ ap (λ asks. made q (from_becomes outer inside all) (filter_becomes (scope ∷ outer) further filters) (keys_in q (scope ∷ outer)) asks outputs scope) named.1
      ∙ ap (λ os. made q (from_becomes outer inside all) (filter_becomes (scope ∷ outer) further filters) (keys_in q (scope ∷ outer)) (asked_in scope) os scope) listed.1 in
      subst (SelectIsOnly outer r b) (sym (analysis-select S q ∙ ap (λ chains. select_layer (select_parts S x (map (chain_analysis S) chains) filters)) from_is)) (
        subst (λ s. select_faults q outer all s (keys_in q (s ∷ outer)) ≡ []) scope_is none,
        r_is ∙ ap (λ s. made q (from_becomes outer inside all) (filter_becomes (s ∷ outer) further filters) (keys_in q (s ∷ outer)) (asked_in s) (shown s (s ∷ outer) b.aggregates x.list) s) scope_is,
      )
    where
      numbers_listed : List ℕ → Listing
      numbers_listed ns = record { references = []; aggregates = ns }

  -- ---- each part by its rule

  mutual
    condition-only : (scopes : Scopes) (c : Condition) (x : Cond) → BindsCondition S scopes c x → ConditionOnly scopes c x
    condition-only scopes c x (BindsCondition.comparison a b op l r form left right fit is) = only-comparison scopes c x a b op l r form left right fit is
    condition-only scopes c x (BindsCondition.null_test a l form left is) = only-null_test scopes c x a l form left is
    condition-only scopes c x (BindsCondition.negation d y form part is) = only-negation scopes c x d y form (condition-only scopes d y part) is
    condition-only scopes c x (BindsCondition.conjunction ds ys form parts is) = only-conjunction scopes c x ds ys form (conditions-only scopes ds ys parts) is
    condition-only scopes c x (BindsCondition.disjunction ds ys form parts is) = only-disjunction scopes c x ds ys form (conditions-only scopes ds ys parts) is
    condition-only scopes c x (BindsCondition.existence q r form query is) = only-existence scopes c x q r form (select-only scopes q r query) is
    condition-only scopes c x (BindsCondition.membership a at q l r o form left query single fit is) = only-membership scopes c x a at q l r o form left (select-only scopes q r query) single fit is

    conditions-only : (scopes : Scopes) (cs : List Condition) (xs : List Cond) → BindsConditions S scopes cs xs → ConditionsOnly scopes cs xs
    conditions-only scopes cs xs BindsConditions.no_condition = λ b runs. (refl, refl)
    conditions-only scopes cs xs (BindsConditions.conditions {c = c} {cs = ds} {x = x} {xs = ys} one others) = only-conditions scopes c ds x ys (condition-only scopes c x one) (conditions-only scopes ds ys others)

    joins-only : (outer : Scopes) (others chain : Scope) (left : From) (js : List Join) (all : Scope) (whole : From) → BindsJoins S outer others chain left js all whole → JoinsOnly outer others chain left js all whole
    joins-only outer others chain left js all whole BindsJoins.no_join = only-no-join outer others chain left
    joins-only outer others chain left js all whole (BindsJoins.joins {js = more} j o k on table condition rest) =
        only-join outer others chain left j o k on more all whole table (condition-only ((chain ++ k ∷ []) ∷ outer) (out-Join j).condition on condition)
        (joins-only outer others (chain ++ k ∷ []) (joined (out-Join j).kind left o on) more all whole rest)

    chain-only : (outer : Scopes) (others : Scope) (c : Chain) (all : Scope) (whole : From) → BindsChain S outer others c all whole → ChainOnly outer others c all whole
    chain-only outer others c all whole (BindsChain.chain d o k table rest) = only-chain outer others d o k all whole table (joins-only outer others (k ∷ []) (from.Table o) (out-Chain d).joins all whole rest)

    commas-only : (outer : Scopes) (scope : Scope) (left : From) (cs : List Chain) (all : Scope) (whole : From) → BindsCommas S outer scope left cs all whole → CommasOnly outer scope left cs all whole
    commas-only outer scope left cs all whole BindsCommas.no_comma = only-no-comma outer scope left
    commas-only outer scope left cs all whole (BindsCommas.commas {right = right} {next = next} {c = c} {cs = ds} one rest) =
        only-comma outer scope right all left next whole c ds (chain-only outer scope c right next one) (commas-only outer (scope ++ right) (from.Comma left next) ds all whole rest)

    filter-only : (scopes : Scopes) (w : Option Condition) (x : Option Cond) → BindsFilter S scopes w x → FilterOnly scopes w x
    filter-only scopes w x BindsFilter.no_filter = only-no-filter scopes
    filter-only scopes w x (BindsFilter.filter {c = c} {x = y} condition) = only-filter scopes c y (condition-only scopes c y condition)

    select-only : (outer : Scopes) (q : Select) (r : BoundSelect) → BindsSelect S outer q r → SelectOnly outer q r
    select-only outer q r (BindsSelect.select c cs first scope left sources where_ keys asked outputs from_is one others test group having list is) =
        only-select outer q r c cs first scope left sources where_ keys asked outputs from_is (chain-only outer [] c first left one) (commas-only outer first left cs scope sources others)
        (filter-only (scope ∷ outer) (out-Select q).filter where_ test) group having list is

  pub selects-only : (outer : Scopes) (q : Select) (r : BoundSelect) → BindsSelect S outer q r → SelectOnly outer q r
  selects-only = select-only
