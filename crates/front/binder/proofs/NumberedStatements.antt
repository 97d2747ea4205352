-- The query of a statement without a fault is numbered in the order of the text.
use Rattle.std.proofs.Common.{◌≡◌, refl, sym, ◌∙◌, ap, subst, ℕ, zero, suc, ◌+◌, List, [], ◌∷◌, ◌++◌, flat_map, length, map, take, slice_get, Option, Some, None, option_map, arith, length-append}
use Rattle.std.specs.List.{range_with_len}
use Rattle.std.proofs.lemmas.List.Sums.{sum_by-cons}
use Rattle.std.proofs.lemmas.List.FromFn.{length-range_with_len}
use Rattle.schema.specs.declared.schema.Schema.{Schema}
use Rattle.sql_parse.specs.declared.statement.Condition.{Condition, roll-Condition}
use Rattle.sql_parse.specs.declared.statement.Condition.TheOpen.{Condition-F, Join-F, Chain-F, Select-F}
use Rattle.sql_parse.specs.declared.statement.Condition.TheFolds.{ind-Chain, ind-Condition, ind-Select, map-Condition, map-Join, map-Chain, map-Select}
use Rattle.sql_parse.specs.declared.statement.Join.{Join, out-Join, roll-Join, out-roll-Join}
use Rattle.sql_parse.specs.declared.statement.Chain.{Chain, out-Chain, roll-Chain, out-roll-Chain}
use Rattle.sql_parse.specs.declared.statement.Select.{Select, out-Select, roll-Select, out-roll-Select}
use Rattle.sql_parse.specs.declared.statement.HavingCondition.{HavingCondition}
use Rattle.sql_parse.specs.declared.statement.Statement.{Statement}
use Rattle.sql_parse.specs.declared.statement.TableName.{TableName}
use Rattle.query.specs.declared.query.From.{From}
use Rattle.query.specs.declared.query.From.TheVariants as from
use Rattle.query.specs.declared.query.TableInstance.{TableInstance}
use Rattle.binder.specs.Outputs.{aggregates, is_grouped}
use Rattle.binder.specs.Parts.{known, table_faults, term_faults, the_term, the_key, the_reference, the_instance, the_table, widths, instances_behind, shown, the_asked}
use Rattle.binder.specs.Scopes.{Scope, Scopes}
use Rattle.binder.specs.Selects.{block_of}
use Rattle.binder.specs.Analyses.{Before, Content, behind, both, all_contents, ConditionAnalysis, JoinAnalysis, ChainAnalysis, SelectAnalysis, all_become, condition_layer, one_table, joins_faults, joins_become, chain_layer, chains_faults, commas_become, from_faults, from_becomes, from_content, filter_content, filter_faults, filter_becomes, scope_of_from, select_layer, condition_analysis, join_analysis, chain_analysis, select_analysis, statement_content, statement_faults, statement_query, having_content}
use Rattle.binder.specs.HavingShapes.{having_becomes, having_values}
use Rattle.binder.specs.TextNumbers.{Listing, one_listing, both_listings, all_listings, filter_listing, items_listing, cond_listing, from_listing, block_listing, columns_together, IsNumbered}
use Rattle.binder.proofs.PartAnswers.{instances-length, widths-append}
use Rattle.binder.proofs.AnalysisNumbers.{nil-parts, both-assoc, both-none, listing-joined, references_behind, of_content, both-listed, shown-numbers}
use Rattle.binder.proofs.AnalysisParts.{analysis-condition, analysis-join, analysis-chain, select_parts, analysis-select}
use Rattle.binder.proofs.HavingShapes.{placed-none}
use Rattle.binder.proofs.Havings.{asked-numbers}
use Rattle.binder.proofs.ListingEquations.{listing-Compare, listing-IsNull, listing-Not, listing-And, listing-Or, listing-Exists, listing-In, listing-Table, listing-Comma, listing-Block}

module _ (S : Schema) where
  abbrev pub ConditionListed : ConditionAnalysis → Type 0
  ConditionListed analysis = (scopes : Scopes) (b : Before) → analysis.faults scopes ≡ [] → cond_listing (analysis.becomes scopes b) ≡ of_content S b analysis.content

  abbrev pub JoinListed : JoinAnalysis → Type 0
  JoinListed analysis = (outer : Scopes) (others chain : Scope) (b : Before) (left : From) → analysis.faults outer others chain ≡ []
      → from_listing (analysis.becomes outer chain b left) ≡ both_listings (from_listing left) (of_content S b analysis.content)

  abbrev pub ChainListed : ChainAnalysis → Type 0
  ChainListed analysis = (outer : Scopes) (others : Scope) (b : Before) → analysis.faults outer others ≡ [] → from_listing (analysis.becomes outer b) ≡ of_content S b analysis.content

  abbrev pub SelectListed : SelectAnalysis → Type 0
  SelectListed analysis = (outer : Scopes) (b : Before) → analysis.faults outer ≡ [] → block_listing (analysis.becomes outer b) ≡ of_content S b analysis.content

  abbrev ProvedCondition : Type 0
  ProvedCondition = (c : Condition) × ConditionListed (condition_analysis S c)

  abbrev ProvedJoin : Type 0
  ProvedJoin = (j : Join) × JoinListed (join_analysis S j)

  abbrev ProvedChain : Type 0
  ProvedChain = (c : Chain) × ChainListed (chain_analysis S c)

  abbrev ProvedSelect : Type 0
  ProvedSelect = (q : Select) × SelectListed (select_analysis S q)

  -- ---- conditions

  abbrev analyses_of : List ProvedCondition → List ConditionAnalysis
  analyses_of cs = map (condition_analysis S) (map (λ c. c.0) cs)

  all-listed : (cs : List ProvedCondition) (scopes : Scopes) (b : Before) → flat_map (λ c. c.faults scopes) (analyses_of cs) ≡ []
      → all_listings (map cond_listing (all_become scopes b (analyses_of cs))) ≡ of_content S b (all_contents (map (λ c. c.content) (analyses_of cs)))
  all-listed [] scopes b none = refl
  all-listed (c ∷ cs) scopes b none =
      let analysis = condition_analysis S c.0 in
      let parts = nil-parts (analysis.faults scopes) (flat_map (λ c. c.faults scopes) (analyses_of cs)) none in
      ap (λ x. both_listings x (all_listings (map cond_listing (all_become scopes (behind b analysis.content) (analyses_of cs))))) (c.1 scopes b parts.0)
      ∙ ap (both_listings (of_content S b analysis.content)) (all-listed cs scopes (behind b analysis.content) parts.1)
      ∙ both-listed S b analysis.content (all_contents (map (λ c. c.content) (analyses_of cs)))

  form-listed : (x : Condition-F Condition Chain Join Select) (c : Condition) → roll-Condition x ≡ c
      → ConditionListed (condition_layer (map-Condition Condition Chain Join Select ConditionAnalysis ChainAnalysis JoinAnalysis SelectAnalysis (condition_analysis S) (chain_analysis S) (join_analysis S) (select_analysis S) x)) → ConditionListed (condition_analysis S c)
  form-listed x c is listed = subst ConditionListed (sym (analysis-condition S x c is)) listed

  condition-listed : (y : Condition-F ProvedCondition ProvedChain ProvedJoin ProvedSelect) → ConditionListed (condition_analysis S (roll-Condition (map-Condition _ _ _ _ Condition Chain Join Select (λ c. c.0) (λ c. c.0) (λ j. j.0) (λ q. q.0) y)))
  condition-listed (Condition-F.Compare a op b) = form-listed (Condition-F.Compare a op b) _ refl (λ scopes n none. listing-Compare op.comparison (the_term scopes a).term (the_term scopes b).term)
  condition-listed (Condition-F.IsNull a) = form-listed (Condition-F.IsNull a) _ refl (λ scopes n none. listing-IsNull (the_term scopes a).term)
  condition-listed (Condition-F.Not c) = form-listed (Condition-F.Not c.0) _ refl (λ scopes n none. listing-Not ((condition_analysis S c.0).becomes scopes n) ∙ c.1 scopes n none)
  condition-listed (Condition-F.And cs) = form-listed (Condition-F.And (map (λ c. c.0) cs)) _ refl (λ scopes n none. listing-And (all_become scopes n (analyses_of cs)) ∙ all-listed cs scopes n none)
  condition-listed (Condition-F.Or cs) = form-listed (Condition-F.Or (map (λ c. c.0) cs)) _ refl (λ scopes n none. listing-Or (all_become scopes n (analyses_of cs)) ∙ all-listed cs scopes n none)
  condition-listed (Condition-F.Exists q) = form-listed (Condition-F.Exists q.0) _ refl (λ scopes n none. listing-Exists ((select_analysis S q.0).becomes scopes n) ∙ q.1 scopes n none)
  condition-listed (Condition-F.In a at q) = form-listed (Condition-F.In a at q.0) _ refl (λ scopes n none.
      let analysis = select_analysis S q.0 in
      let behind_term = (nil-parts (term_faults scopes a) _ none).1 in
      listing-In (the_term scopes a).term (analysis.becomes scopes n) ∙ q.1 scopes n (nil-parts (analysis.faults scopes) _ behind_term).0)

  -- ---- FROM

  join-listed : (j : Join) → ConditionListed (condition_analysis S (out-Join j).condition) → JoinListed (join_analysis S j)
  join-listed j on = subst JoinListed (sym (analysis-join S j)) (λ outer others chain b left none.
      let t = (out-Join j).table in
      let analysis = condition_analysis S (out-Join j).condition in
      let right : Scope = chain ++ known S t ∷ [] in
      let inside : Before = behind b (one_table S t) in
      let o = the_reference S b.tables t in
      listing-joined (out-Join j).kind left o (analysis.becomes (right ∷ outer) inside)
      ∙ ap (λ x. both_listings (from_listing left) (both_listings (one_listing o) x)) (on (right ∷ outer) inside (nil-parts (table_faults S (others ++ chain) t) _ none).1)
      ∙ ap (both_listings (from_listing left)) (both-listed S b (one_table S t) analysis.content))

  abbrev joins_of : List ProvedJoin → List JoinAnalysis
  joins_of joins = map (join_analysis S) (map (λ j. j.0) joins)

  joins-listed : (joins : List ProvedJoin) (outer : Scopes) (others chain : Scope) (b : Before) (left : From) → joins_faults S outer others chain (joins_of joins) ≡ []
      → from_listing (joins_become S outer chain b left (joins_of joins)) ≡ both_listings (from_listing left) (of_content S b (all_contents (map (λ j. j.content) (joins_of joins))))
  joins-listed [] outer others chain b left none = sym (both-none (from_listing left))
  joins-listed (j ∷ joins) outer others chain b left none =
      let analysis = join_analysis S j.0 in
      let right : Scope = chain ++ known S analysis.table ∷ [] in
      let rest = all_contents (map (λ (j : JoinAnalysis). j.content) (joins_of joins)) in
      let parts = nil-parts (analysis.faults outer others chain) (joins_faults S outer others right (joins_of joins)) none in
      joins-listed joins outer others right (behind b analysis.content) (analysis.becomes outer chain b left) parts.1
      ∙ ap (λ x. both_listings x (of_content S (behind b analysis.content) rest)) (j.1 outer others chain b left parts.0)
      ∙ both-assoc (from_listing left) (of_content S b analysis.content) (of_content S (behind b analysis.content) rest)
      ∙ ap (both_listings (from_listing left)) (both-listed S b analysis.content rest)

  chain-listed : (c : Chain) (joins : List ProvedJoin) → map (λ j. j.0) joins ≡ (out-Chain c).joins → ChainListed (chain_analysis S c)
  chain-listed c joins same = subst ChainListed (sym (analysis-chain S c ∙ ap (λ js. chain_layer S (record { table = (out-Chain c).table; joins = map (join_analysis S) js })) (sym same))) (λ outer others b none.
      let t = (out-Chain c).table in
      let left : From = from.Table (the_reference S b.tables t) in
      let rest = all_contents (map (λ (j : JoinAnalysis). j.content) (joins_of joins)) in
      joins-listed joins outer others (known S t ∷ []) (behind b (one_table S t)) left (nil-parts (table_faults S others t) _ none).1
      ∙ ap (λ x. both_listings x (of_content S (behind b (one_table S t)) rest)) (listing-Table (the_reference S b.tables t))
      ∙ both-listed S b (one_table S t) rest)

  abbrev chains_of : List ProvedChain → List ChainAnalysis
  chains_of chains = map (chain_analysis S) (map (λ c. c.0) chains)

  commas-listed : (chains : List ProvedChain) (outer : Scopes) (others : Scope) (b : Before) (left : From) → chains_faults outer others (chains_of chains) ≡ []
      → from_listing (commas_become outer b left (chains_of chains)) ≡ both_listings (from_listing left) (of_content S b (from_content (chains_of chains)))
  commas-listed [] outer others b left none = sym (both-none (from_listing left))
  commas-listed (c ∷ chains) outer others b left none =
      let analysis = chain_analysis S c.0 in
      let rest = from_content (chains_of chains) in
      let parts = nil-parts (analysis.faults outer others) (chains_faults outer (others ++ analysis.scope) (chains_of chains)) none in
      let further : From = from.Comma left (analysis.becomes outer b) in
      commas-listed chains outer (others ++ analysis.scope) (behind b analysis.content) further parts.1
      ∙ ap (λ x. both_listings x (of_content S (behind b analysis.content) rest)) (listing-Comma left (analysis.becomes outer b) ∙ ap (both_listings (from_listing left)) (c.1 outer others b parts.0))
      ∙ both-assoc (from_listing left) (of_content S b analysis.content) (of_content S (behind b analysis.content) rest)
      ∙ ap (both_listings (from_listing left)) (both-listed S b analysis.content rest)

  from-listed : (chains : List ProvedChain) (outer : Scopes) (b : Before) → from_faults outer (chains_of chains) ≡ [] → from_listing (from_becomes outer b (chains_of chains)) ≡ of_content S b (from_content (chains_of chains))
  from-listed [] outer b none = cc none
  from-listed (c ∷ chains) outer b none =
      let analysis = chain_analysis S c.0 in
      let rest = from_content (chains_of chains) in
      let parts = nil-parts (analysis.faults outer []) (chains_faults outer analysis.scope (chains_of chains)) none in
      commas-listed chains outer analysis.scope (behind b analysis.content) (analysis.becomes outer b) parts.1
      ∙ ap (λ x. both_listings x (of_content S (behind b analysis.content) rest)) (c.1 outer [] b parts.0)
      ∙ both-listed S b analysis.content rest

  -- ---- SELECT

  abbrev filter_of : Option ProvedCondition → Option Condition
  filter_of None = None
  filter_of (Some c) = Some c.0

  filter-listed : (w : Option ProvedCondition) (scopes : Scopes) (b : Before) → filter_faults scopes (option_map (condition_analysis S) (filter_of w)) ≡ []
      → filter_listing (option_map cond_listing (filter_becomes scopes b (option_map (condition_analysis S) (filter_of w)))) ≡ of_content S b (filter_content (option_map (condition_analysis S) (filter_of w)))
  filter-listed None scopes b none = refl
  filter-listed (Some c) scopes b none = c.1 scopes b none

  -- a HAVING lists its aggregates
  pub having-listed : (scopes : Scopes) (having : Option HavingCondition) (b : Before)
      → both_listings (filter_listing (option_map cond_listing (having_becomes having))) (items_listing (the_asked scopes b.aggregates (having_values having))) ≡ of_content S b (having_content having)
  having-listed scopes None b = refl
  having-listed scopes (Some h) b =
      ap (λ x. both_listings x (items_listing (the_asked scopes b.aggregates (having_values (Some h))))) (placed-none h 0)
      ∙ ap (λ ns. record { references = []; aggregates = ns }) (asked-numbers scopes b.aggregates (having_values (Some h)))

  select-listed : (q : Select) (cs : List ProvedChain) (w : Option ProvedCondition) → map (λ c. c.0) cs ≡ (out-Select q).from → filter_of w ≡ (out-Select q).filter → SelectListed (select_analysis S q)
  select-listed q cs w from_is filter_is = subst SelectListed (sym (analysis-select S q ∙ ap (λ chains. select_layer (select_parts S x (map (chain_analysis S) chains) (option_map (condition_analysis S) x.filter))) (sym from_is)
      ∙ ap (λ o. select_layer (select_parts S x (chains_of cs) (option_map (condition_analysis S) o))) (sym filter_is))) (λ outer b none.
      let own : Content = record { tables = []; aggregates = aggregates x.list } in
      let inside : Before = behind b own in
      let chains = chains_of cs in
      let filter = option_map (condition_analysis S) (filter_of w) in
      let scope = scope_of_from chains in
      let scopes : Scopes = scope ∷ outer in
      let keys = map (the_key scopes) x.group in
      let further : Before = behind inside (from_content chains) in
      let outputs = shown scope scopes b.aggregates x.list in
      let first = nil-parts (from_faults outer chains) _ none in
      let next = nil-parts (filter_faults scopes filter) _ first.1 in
      let last : Before = behind further (filter_content filter) in
      let asked = the_asked scopes last.aggregates (having_values x.having) in
      let from_ : Listing = from_listing (from_becomes outer inside chains) in
      let where_ : Listing = filter_listing (option_map cond_listing (filter_becomes scopes further filter)) in
      let asked_ : Listing = both_listings (filter_listing (option_map cond_listing (having_becomes x.having))) (items_listing asked) in
      listing-Block (block_of x.distinct (from_becomes outer inside chains) (filter_becomes scopes further filter) (is_grouped keys x.list x.having) keys x.having asked outputs)
      ∙ ap (λ ns. both_listings (record { references = []; aggregates = ns }) (both_listings from_ (both_listings where_ asked_))) (shown-numbers scope scopes b.aggregates x.list)
      ∙ ap (λ y. both_listings (of_content S b own) (both_listings y (both_listings where_ asked_))) (from-listed cs outer inside first.0)
      ∙ ap (λ y. both_listings (of_content S b own) (both_listings (of_content S inside (from_content chains)) (both_listings y asked_))) (filter-listed w scopes further next.0)
      ∙ ap (λ y. both_listings (of_content S b own) (both_listings (of_content S inside (from_content chains)) (both_listings (of_content S further (filter_content filter)) y))) (having-listed scopes x.having last)
      ∙ ap (λ y. both_listings (of_content S b own) (both_listings (of_content S inside (from_content chains)) y)) (both-listed S further (filter_content filter) (having_content x.having))
      ∙ ap (both_listings (of_content S b own)) (both-listed S inside (from_content chains) (both (filter_content filter) (having_content x.having)))
      ∙ both-listed S b own (both (from_content chains) (both (filter_content filter) (having_content x.having))))
    where
      x : Select-F Condition Chain Join Select
      x = out-Select q

  -- ---- each part, wherever it stands

  select-by : (y : Select-F ProvedCondition ProvedChain ProvedJoin ProvedSelect) (w : Option ProvedCondition)
      → SelectListed (select_analysis S (roll-Select (map-Select _ _ _ _ Condition Chain Join Select (λ c. c.0) (λ c. c.0) (λ j. j.0) (λ q. q.0) (record y { filter = w }))))
  select-by y None =
      let z = map-Select _ _ _ _ Condition Chain Join Select (λ c. c.0) (λ c. c.0) (λ j. j.0) (λ q. q.0) (record y { filter = None }) in
      select-listed (roll-Select z) y.from None (sym (ap (λ x. x.from) (out-roll-Select z))) (sym (ap (λ x. x.filter) (out-roll-Select z)))
  select-by y (Some c) =
      let z = map-Select _ _ _ _ Condition Chain Join Select (λ c. c.0) (λ c. c.0) (λ j. j.0) (λ q. q.0) (record y { filter = Some c }) in
      select-listed (roll-Select z) y.from (Some c) (sym (ap (λ x. x.from) (out-roll-Select z))) (sym (ap (λ x. x.filter) (out-roll-Select z)))

  join-by : (y : Join-F ProvedCondition ProvedChain ProvedJoin ProvedSelect) → JoinListed (join_analysis S (roll-Join (map-Join _ _ _ _ Condition Chain Join Select (λ c. c.0) (λ c. c.0) (λ j. j.0) (λ q. q.0) y)))
  join-by y =
      let z = map-Join _ _ _ _ Condition Chain Join Select (λ c. c.0) (λ c. c.0) (λ j. j.0) (λ q. q.0) y in
      join-listed (roll-Join z) (subst (λ c. ConditionListed (condition_analysis S c)) (sym (ap (λ x. x.condition) (out-roll-Join z))) y.condition.1)

  chain-by : (y : Chain-F ProvedCondition ProvedChain ProvedJoin ProvedSelect) → ChainListed (chain_analysis S (roll-Chain (map-Chain _ _ _ _ Condition Chain Join Select (λ c. c.0) (λ c. c.0) (λ j. j.0) (λ q. q.0) y)))
  chain-by y =
      let z = map-Chain _ _ _ _ Condition Chain Join Select (λ c. c.0) (λ c. c.0) (λ j. j.0) (λ q. q.0) y in
      chain-listed (roll-Chain z) y.joins (sym (ap (λ x. x.joins) (out-roll-Chain z)))

  pub conditions-listed : (c : Condition) → ConditionListed (condition_analysis S c)
  conditions-listed = ind-Condition (λ c. ConditionListed (condition_analysis S c)) (λ c. ChainListed (chain_analysis S c)) (λ j. JoinListed (join_analysis S j)) (λ q. SelectListed (select_analysis S q))
      (λ x y is. subst (λ z. ConditionListed (condition_analysis S (roll-Condition z))) is (condition-listed y))
      (λ x y is. subst (λ z. ChainListed (chain_analysis S (roll-Chain z))) is (chain-by y))
      (λ x y is. subst (λ z. JoinListed (join_analysis S (roll-Join z))) is (join-by y))
      (λ x y is. subst (λ z. SelectListed (select_analysis S (roll-Select z))) is (select-by y y.filter))

  -- of a WHERE, if there is one
  pub filters-listed : (scopes : Scopes) (w : Option Condition) (b : Before) → filter_faults scopes (option_map (condition_analysis S) w) ≡ []
      → filter_listing (option_map cond_listing (filter_becomes scopes b (option_map (condition_analysis S) w))) ≡ of_content S b (filter_content (option_map (condition_analysis S) w))
  filters-listed scopes None b none = refl
  filters-listed scopes (Some c) b none = conditions-listed c scopes b none

  pub chains-listed : (c : Chain) → ChainListed (chain_analysis S c)
  chains-listed = ind-Chain (λ c. ConditionListed (condition_analysis S c)) (λ c. ChainListed (chain_analysis S c)) (λ j. JoinListed (join_analysis S j)) (λ q. SelectListed (select_analysis S q))
      (λ x y is. subst (λ z. ConditionListed (condition_analysis S (roll-Condition z))) is (condition-listed y))
      (λ x y is. subst (λ z. ChainListed (chain_analysis S (roll-Chain z))) is (chain-by y))
      (λ x y is. subst (λ z. JoinListed (join_analysis S (roll-Join z))) is (join-by y))
      (λ x y is. subst (λ z. SelectListed (select_analysis S (roll-Select z))) is (select-by y y.filter))

  -- of a FROM of any chains
  all-proved : List Chain → List ProvedChain
  all-proved [] = []
  all-proved (c ∷ cs) = (c, chains-listed c) ∷ all-proved cs

  proved-are : (cs : List Chain) → map (λ c. c.0) (all-proved cs) ≡ cs
  unfolding all-proved
  proved-are [] = refl
  proved-are (c ∷ cs) = ap (λ ds. c ∷ ds) (proved-are cs)

  pub froms-listed : (cs : List Chain) (outer : Scopes) (b : Before) → from_faults outer (map (chain_analysis S) cs) ≡ [] → from_listing (from_becomes outer b (map (chain_analysis S) cs)) ≡ of_content S b (from_content (map (chain_analysis S) cs))
  froms-listed cs = subst (λ ds. (outer : Scopes) (b : Before) → from_faults outer (map (chain_analysis S) ds) ≡ [] → from_listing (from_becomes outer b (map (chain_analysis S) ds)) ≡ of_content S b (from_content (map (chain_analysis S) ds)))
      (proved-are cs) (from-listed (all-proved cs))

  pub selects-listed : (q : Select) → SelectListed (select_analysis S q)
  selects-listed = ind-Select (λ c. ConditionListed (condition_analysis S c)) (λ c. ChainListed (chain_analysis S c)) (λ j. JoinListed (join_analysis S j)) (λ q. SelectListed (select_analysis S q))
      (λ x y is. subst (λ z. ConditionListed (condition_analysis S (roll-Condition z))) is (condition-listed y))
      (λ x y is. subst (λ z. ChainListed (chain_analysis S (roll-Chain z))) is (chain-by y))
      (λ x y is. subst (λ z. JoinListed (join_analysis S (roll-Join z))) is (join-by y))
      (λ x y is. subst (λ z. SelectListed (select_analysis S (roll-Select z))) is (select-by y y.filter))

  -- ---- numbers, one after the other

  in-order : (before ts : List TableName) → map (λ o. o.number) (references_behind S before ts) ≡ range_with_len (length before) (length ts)
  in-order before [] = refl
  in-order before (t ∷ ts) =
      let more : length (before ++ t ∷ []) ≡ length before + 1 = omega (arith, length-append before (t ∷ [])) in
      ap (λ ns. length before ∷ ns) (in-order (before ++ t ∷ []) ts ∙ ap (λ n. range_with_len n (length ts)) more)

  pub same-tables : (before ts : List TableName) → map (λ o. o.table) (references_behind S before ts) ≡ map (λ t. t.table) (instances_behind S before ts)
  same-tables before [] = refl
  same-tables before (t ∷ ts) = ap (λ places. (the_table S t).0 ∷ places) (same-tables (before ++ t ∷ []) ts)

  pub together-widths : (before ts : List TableName) → columns_together (instances_behind S before ts) ≡ widths S ts
  together-widths before [] = refl
  together-widths before (t ∷ ts) =
      let sum = sum_by-cons (λ (t : TableInstance). length t.entry.columns) (the_instance S before t) (instances_behind S (before ++ t ∷ []) ts) in
      let more = together-widths (before ++ t ∷ []) ts in
      omega (arith, sum, more)

  pub first-columns : (before ts : List TableName) (i : ℕ) (t : TableInstance) → slice_get (instances_behind S before ts) i ≡ Some t → t.first_column ≡ widths S before + columns_together (take i (instances_behind S before ts))
  first-columns before [] i t is = cc is
  first-columns before (u ∷ ts) zero t is =
      let same : the_instance S before u ≡ t = cc is in
      let first = ap (λ (x : TableInstance). x.first_column) same in
      omega (arith, first)
  first-columns before (u ∷ ts) (suc i) t is =
      let more = first-columns (before ++ u ∷ []) ts i t is in
      let wide = widths-append S before (u ∷ []) in
      let sum = sum_by-cons (λ (t : TableInstance). length t.entry.columns) (the_instance S before u) (take i (instances_behind S (before ++ u ∷ []) ts)) in
      omega (arith, more, wide, sum)

  module _ (s : Statement) where
    abbrev content : Content
    content = statement_content S s

    numbered-query : block_listing (statement_query S s).block ≡ of_content S (record { tables = []; aggregates = widths S content.tables }) content → IsNumbered (statement_query S s)
    unfolding statement_query
    numbered-query listed = record {
      numbers = ap (λ (x : Listing). map (λ o. o.number) x.references) listed ∙ in-order [] content.tables ∙ ap (range_with_len 0) (sym (instances-length S [] content.tables));
      tables = ap (λ (x : Listing). map (λ o. o.table) x.references) listed ∙ same-tables [] content.tables;
      columns = λ i t is. let first = first-columns [] content.tables i t is in omega (arith, first);
      aggregates =
          let here = ap (λ (x : Listing). x.aggregates) listed in
          let count : content.aggregates ≡ length (block_listing (statement_query S s).block).aggregates
          = sym (length-range_with_len (widths S content.tables) content.aggregates) ∙ sym (ap length here) in
          here ∙ ap (λ n. range_with_len n content.aggregates) (sym (together-widths [] content.tables)) ∙ ap (range_with_len (columns_together (instances_behind S [] content.tables))) count;
    }

    pub no-select-fault : statement_faults S s ≡ [] → (select_analysis S s.select).faults [] ≡ []
    unfolding statement_faults
    no-select-fault none = (nil-parts ((select_analysis S s.select).faults []) _ (nil-parts _ _ none).1).0

    pub numbered : statement_faults S s ≡ [] → IsNumbered (statement_query S s)
    unfolding statement_query
    numbered none = numbered-query (selects-listed s.select [] _ (no-select-fault none))
