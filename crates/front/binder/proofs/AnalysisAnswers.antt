-- What is computed of conditions, FROMs and SELECTs is what they mean, or their first fault.
use Rattle.std.proofs.Common.{◌≡◌, refl, sym, ◌∙◌, ap, subst, ℕ, ◌+◌, List, [], ◌∷◌, ◌++◌, flat_map, map, Option, Some, None, option_map, Result, Ok, arith, append_assoc, append-nil}
use Rattle.values.specs.Faults.{◌>>=◌}
use Rattle.schema.specs.Each.{each}
use Rattle.schema.specs.declared.schema.Schema.{Schema}
use Rattle.sql_parse.specs.declared.statement.Condition.{Condition}
use Rattle.sql_parse.specs.declared.statement.Condition.TheOpen.{Condition-F, Select-F}
use Rattle.sql_parse.specs.declared.statement.Condition.TheVariants as tree
use Rattle.sql_parse.specs.declared.statement.Join.{Join, out-Join}
use Rattle.sql_parse.specs.declared.statement.Chain.{Chain, out-Chain}
use Rattle.sql_parse.specs.declared.statement.Operator.{Operator}
use Rattle.sql_parse.specs.declared.statement.Select.{Select, out-Select}
use Rattle.sql_parse.specs.declared.statement.TableName.{TableName}
use Rattle.sql_parse.specs.declared.statement.Term as terms
use Rattle.query.specs.declared.query.Cond.{Cond}
use Rattle.query.specs.declared.query.Cond.TheVariants as cond
use Rattle.query.specs.declared.query.From.{From}
use Rattle.query.specs.declared.query.From.TheVariants as from
use Rattle.binder.specs.declared.fault.BindRefusal.{BindRefusal}
use Rattle.binder.specs.declared.selects.BoundSelect.{BoundSelect}
use Rattle.binder.specs.declared.tables.Numbered.{Numbered}
use Rattle.binder.specs.Numbers.{enter, with_aggregates}
use Rattle.binder.specs.Outputs.{aggregates, is_grouped, key_in, outputs_in}
use Rattle.binder.specs.Scopes.{Scope, Scopes}
use Rattle.binder.specs.HavingShapes.{having_values}
use Rattle.binder.specs.Havings.{having_asked}
use Rattle.binder.specs.Selects.{FromSoFar, condition_in, join_in, chain_in, select_in, comparison_in, membership_in, term_in, all_in, joined, through, commas, from_in, filter_in, block_of, nothing_asked, with_asked}
use Rattle.binder.specs.Parts.{term_faults, the_term, known, table_faults, the_reference, key_faults, the_key, list_faults, shown, the_asked}
use Rattle.binder.specs.Analyses.{Before, Content, behind, nothing, both, all_contents, ConditionAnalysis, JoinAnalysis, ChainAnalysis, SelectAnalysis, all_become, one_table, joins_faults, joins_become, chain_layer, chains_faults, commas_become, from_faults, from_becomes, from_content, filter_content, filter_faults, filter_becomes, scope_of_from, select_layer, condition_analysis, join_analysis, chain_analysis, select_analysis, having_faults, having_content}
use Rattle.binder.proofs.PartAnswers.{answer, then-answer, made-answer, each-answer, term-answer, comparison-answer, membership-answer, key-answer, list-answer, shown-kinds, numbered, enter-answer}
use Rattle.binder.proofs.SelectParts.{compared, null_tested, negated, conjoined, disjoined, existing, contained, join_at, chain_at, select_at}
use Rattle.binder.proofs.Havings.{calls, having-answer}
use Rattle.binder.proofs.AnalysisParts.{analysis-condition, analysis-join, analysis-chain, select_parts, analysis-select}

-- ---- what stands before

abbrev before_of : List TableName → ℕ → Before
before_of tables aggregates = record { tables = tables; aggregates = aggregates }

before-is : (xs ys : List TableName) (m n : ℕ) → xs ≡ ys → m ≡ n → before_of xs m ≡ before_of ys n
before-is xs ys m n same also = ap (λ ts. before_of ts m) same ∙ ap (λ k. before_of ys k) also

pub behind-nothing : (b : Before) → behind b nothing ≡ b
behind-nothing b = before-is (b.tables ++ []) b.tables (b.aggregates + 0) b.aggregates (append-nil b.tables) (omega arith)

pub behind-both : (b : Before) (c d : Content) → behind (behind b c) d ≡ behind b (both c d)
behind-both b c d = before-is _ _ _ _ (append_assoc b.tables c.tables d.tables) (omega arith)

module _ (S : Schema) where
  -- what has numbers there
  abbrev pub state : Before → Numbered
  state b = numbered S b.tables b.aggregates

  state-aggregates : (b : Before) (a : ℕ) → with_aggregates (state b) a ≡ state (behind b (record { tables = []; aggregates = a }))
  state-aggregates b a = ap (λ ts. numbered S ts (b.aggregates + a)) (sym (append-nil b.tables))

  -- ---- the claims

  abbrev pub ConditionIs : Condition → ConditionAnalysis → Type 0
  ConditionIs c analysis = (scopes : Scopes) (b : Before) → condition_in S c scopes (state b) ≡ answer (analysis.faults scopes) (analysis.becomes scopes b, state (behind b analysis.content))

  abbrev pub JoinIs : Join → JoinAnalysis → Type 0
  JoinIs j analysis = (outer : Scopes) (others chain : Scope) (b : Before) (left : From) → join_in S j outer others (left, chain, state b)
      ≡ answer (analysis.faults outer others chain) (analysis.becomes outer chain b left, chain ++ known S analysis.table ∷ [], state (behind b analysis.content))

  abbrev pub ChainIs : Chain → ChainAnalysis → Type 0
  ChainIs c analysis = (outer : Scopes) (others : Scope) (b : Before) → chain_in S c outer others (state b)
      ≡ answer (analysis.faults outer others) (analysis.becomes outer b, analysis.scope, state (behind b analysis.content))

  abbrev pub bound_select : SelectAnalysis → Scopes → Before → BoundSelect
  bound_select analysis outer b = record { block = analysis.becomes outer b; outputs = analysis.outputs outer b.aggregates; scope = analysis.scope }

  abbrev pub SelectIs : Select → SelectAnalysis → Type 0
  SelectIs q analysis = (outer : Scopes) (b : Before) → select_in S q outer (state b) ≡ answer (analysis.faults outer) (bound_select analysis outer b, state (behind b analysis.content))

  abbrev pub HasKinds : SelectAnalysis → Type 0
  HasKinds analysis = (outer : Scopes) (number : ℕ) → map (λ o. o.kind) (analysis.outputs outer number) ≡ analysis.kinds outer

  -- ---- conditions

  abbrev pub CondAnswer : Type 0
  CondAnswer = Result (Cond × Numbered) BindRefusal

  pub answer-Compare : (a : terms.Term) (op : Operator) (b : terms.Term) → ConditionIs (tree.Compare a op b) (condition_analysis S (tree.Compare a op b))
  answer-Compare a op b = subst (ConditionIs (tree.Compare a op b)) (sym (analysis-condition S (Condition-F.Compare a op b) _ (tree.rolls-Compare a op b))) (λ scopes n.
      compared S _ a op b scopes (state n) refl ∙ made-answer (comparison_in scopes a op b) _ _ (λ bound. (bound, state n)) (comparison-answer scopes a op b)
      ∙ ap (λ (m : Before). answer _ (_, state m)) (sym (behind-nothing n)))

  pub answer-IsNull : (a : terms.Term) → ConditionIs (tree.IsNull a) (condition_analysis S (tree.IsNull a))
  answer-IsNull a = subst (ConditionIs (tree.IsNull a)) (sym (analysis-condition S (Condition-F.IsNull a) _ (tree.rolls-IsNull a))) (λ scopes n.
      null_tested S _ a scopes (state n) refl ∙ made-answer (term_in scopes a) _ _ (λ tested. (cond.IsNull tested.term, state n)) (term-answer scopes a)
      ∙ ap (λ (m : Before). answer _ (_, state m)) (sym (behind-nothing n)))

  pub answer-Not : (c : Condition) → ConditionIs c (condition_analysis S c) → ConditionIs (tree.Not c) (condition_analysis S (tree.Not c))
  answer-Not c is = subst (ConditionIs (tree.Not c)) (sym (analysis-condition S (Condition-F.Not c) _ (tree.rolls-Not c))) (λ scopes n.
      negated S _ c c scopes (state n) refl refl ∙ made-answer (condition_in S c scopes (state n)) _ _ (λ part. (cond.Not part.0, part.1)) (is scopes n))

  abbrev pub ProvedCondition : Type 0
  ProvedCondition = (c : Condition) × ConditionIs c (condition_analysis S c)

  abbrev pub conditions_of : List ProvedCondition → List Condition
  conditions_of = map (λ c. c.0)

  abbrev analyses_of : List ProvedCondition → List ConditionAnalysis
  analyses_of cs = map (condition_analysis S) (conditions_of cs)

  all-answer : (cs : List ProvedCondition) (scopes : Scopes) (b : Before) → all_in (map (condition_in S) (conditions_of cs)) scopes (state b)
      ≡ answer (flat_map (λ c. c.faults scopes) (analyses_of cs)) (all_become scopes b (analyses_of cs), state (behind b (all_contents (map (λ c. c.content) (analyses_of cs)))))
  all-answer [] scopes b = ap (λ (m : Before). Ok ([], state m)) (sym (behind-nothing b))
  all-answer (c ∷ cs) scopes b =
      let analysis = condition_analysis S c.0 in
      let rest = all_contents (map (λ c. c.content) (analyses_of cs)) in
      then-answer (condition_in S c.0 scopes (state b)) (analysis.faults scopes) (analysis.becomes scopes b, state (behind b analysis.content)) _ _ _ (c.1 scopes b)
      (made-answer (all_in (map (condition_in S) (conditions_of cs)) scopes (state (behind b analysis.content))) _ _ (λ others. (analysis.becomes scopes b ∷ others.0, others.1)) (all-answer cs scopes (behind b analysis.content))
      ∙ ap (λ (m : Before). answer (flat_map (λ c. c.faults scopes) (analyses_of cs)) (all_become scopes b (analysis ∷ analyses_of cs), state m)) (behind-both b analysis.content rest))

  pub answer-And : (cs : List ProvedCondition) → ConditionIs (tree.And (conditions_of cs)) (condition_analysis S (tree.And (conditions_of cs)))
  answer-And cs = subst (ConditionIs (tree.And (conditions_of cs))) (sym (analysis-condition S (Condition-F.And (conditions_of cs)) _ (tree.rolls-And (conditions_of cs)))) (λ scopes n.
      conjoined S _ (conditions_of cs) (conditions_of cs) scopes (state n) refl refl ∙ made-answer (all_in (map (condition_in S) (conditions_of cs)) scopes (state n)) _ _ (λ parts. (cond.And parts.0, parts.1)) (all-answer cs scopes n))

  pub answer-Or : (cs : List ProvedCondition) → ConditionIs (tree.Or (conditions_of cs)) (condition_analysis S (tree.Or (conditions_of cs)))
  answer-Or cs = subst (ConditionIs (tree.Or (conditions_of cs))) (sym (analysis-condition S (Condition-F.Or (conditions_of cs)) _ (tree.rolls-Or (conditions_of cs)))) (λ scopes n.
      disjoined S _ (conditions_of cs) (conditions_of cs) scopes (state n) refl refl ∙ made-answer (all_in (map (condition_in S) (conditions_of cs)) scopes (state n)) _ _ (λ parts. (cond.Or parts.0, parts.1)) (all-answer cs scopes n))

  pub answer-Exists : (q : Select) → SelectIs q (select_analysis S q) → ConditionIs (tree.Exists q) (condition_analysis S (tree.Exists q))
  answer-Exists q is = subst (ConditionIs (tree.Exists q)) (sym (analysis-condition S (Condition-F.Exists q) _ (tree.rolls-Exists q))) (λ scopes n.
      existing S _ q q scopes (state n) refl refl ∙ made-answer (select_in S q scopes (state n)) _ _ (λ query. (cond.Exists query.0.block, query.1)) (is scopes n))

  pub answer-In : (a : terms.Term) (at : ℕ) (q : Select) → SelectIs q (select_analysis S q) → HasKinds (select_analysis S q) → ConditionIs (tree.In a at q) (condition_analysis S (tree.In a at q))
  answer-In a at q is kinds = subst (ConditionIs (tree.In a at q)) (sym (analysis-condition S (Condition-F.In a at q) _ (tree.rolls-In a at q))) (λ scopes n.
      let analysis = select_analysis S q in
      contained S _ a at q q scopes (state n) refl refl
      ∙ then-answer (term_in scopes a) (term_faults scopes a) (the_term scopes a) _ _ _ (term-answer scopes a)
      (then-answer (select_in S q scopes (state n)) (analysis.faults scopes) (bound_select analysis scopes n, state (behind n analysis.content)) _ _ _ (is scopes n)
      (made-answer (membership_in (the_term scopes a) at (bound_select analysis scopes n)) _ _ (λ bound. (bound, state (behind n analysis.content)))
      (membership-answer (the_term scopes a) at (bound_select analysis scopes n) (analysis.kinds scopes) (kinds scopes n.aggregates)))))

  -- ---- FROM

  pub answer-join : (j : Join) → ConditionIs (out-Join j).condition (condition_analysis S (out-Join j).condition) → JoinIs j (join_analysis S j)
  answer-join j is = subst (JoinIs j) (sym (analysis-join S j)) (λ outer others chain b left.
      let t = (out-Join j).table in
      let on = condition_analysis S (out-Join j).condition in
      let right : Scope = chain ++ known S t ∷ [] in
      let inside : Before = behind b (one_table S t) in
      join_at S j outer others (left, chain, state b) (out-Join j).condition refl
      ∙ then-answer (enter S others chain t (state b)) (table_faults S (others ++ chain) t) (the_reference S b.tables t, right, numbered S (b.tables ++ t ∷ []) b.aggregates) _ _ _ (enter-answer S others chain t b.tables b.aggregates)
      (ap (λ k. condition_in S (out-Join j).condition (right ∷ outer) (numbered S (b.tables ++ t ∷ []) k) >>= λ on. Ok (joined (out-Join j).kind left (the_reference S b.tables t) on.0, right, on.1)) (plus-nothing b.aggregates)
      ∙ made-answer (condition_in S (out-Join j).condition (right ∷ outer) (state inside)) (on.faults (right ∷ outer)) (on.becomes (right ∷ outer) inside, state (behind inside on.content))
      (λ on. (joined (out-Join j).kind left (the_reference S b.tables t) on.0, right, on.1)) (is (right ∷ outer) inside)
      ∙ ap (λ (m : Before). answer (on.faults (right ∷ outer)) (joined (out-Join j).kind left (the_reference S b.tables t) (on.becomes (right ∷ outer) inside), right, state m)) (behind-both b (one_table S t) on.content)))
    where
      plus-nothing : (n : ℕ) → n ≡ n + 0
      plus-nothing n = omega arith

  abbrev pub ProvedJoin : Type 0
  ProvedJoin = (j : Join) × JoinIs j (join_analysis S j)

  abbrev pub joins_of : List ProvedJoin → List Join
  joins_of = map (λ j. j.0)

  through-answer : (joins : List ProvedJoin) (outer : Scopes) (others chain : Scope) (b : Before) (left : From)
      → through (map (join_in S) (joins_of joins)) outer others (left, chain, state b)
      ≡ answer (joins_faults S outer others chain (map (join_analysis S) (joins_of joins)))
      (joins_become S outer chain b left (map (join_analysis S) (joins_of joins)), chain ++ map (λ j. known S j.table) (map (join_analysis S) (joins_of joins)), state (behind b (all_contents (map (λ j. j.content) (map (join_analysis S) (joins_of joins))))))
  through-answer [] outer others chain b left =
      ap (λ c. Ok (left, c, state b)) (sym (append-nil chain)) ∙ ap (λ (m : Before). Ok (left, chain ++ [], state m)) (sym (behind-nothing b))
  through-answer (j ∷ joins) outer others chain b left =
      let analysis = join_analysis S j.0 in
      let analyses = map (join_analysis S) (joins_of joins) in
      let right : Scope = chain ++ known S analysis.table ∷ [] in
      then-answer (join_in S j.0 outer others (left, chain, state b)) (analysis.faults outer others chain) (analysis.becomes outer chain b left, right, state (behind b analysis.content)) _ _ _ (j.1 outer others chain b left)
      (through-answer joins outer others right (behind b analysis.content) (analysis.becomes outer chain b left)
      ∙ ap (λ c. answer (joins_faults S outer others right analyses) (joins_become S outer right (behind b analysis.content) (analysis.becomes outer chain b left) analyses, c, state (behind (behind b analysis.content) (all_contents (map (λ j. j.content) analyses)))))
      (append_assoc chain (known S analysis.table ∷ []) (map (λ j. known S j.table) analyses))
      ∙ ap (λ (m : Before). answer (joins_faults S outer others right analyses) (joins_become S outer right (behind b analysis.content) (analysis.becomes outer chain b left) analyses, chain ++ known S analysis.table ∷ map (λ j. known S j.table) analyses, state m))
      (behind-both b analysis.content (all_contents (map (λ j. j.content) analyses))))

  pub answer-chain : (c : Chain) (joins : List ProvedJoin) → joins_of joins ≡ (out-Chain c).joins → ChainIs c (chain_analysis S c)
  answer-chain c joins same = subst (ChainIs c) (sym (analysis-chain S c ∙ ap (λ js. chain_layer S (record { table = (out-Chain c).table; joins = map (join_analysis S) js })) (sym same))) (λ outer others b.
      let t = (out-Chain c).table in
      let analyses = map (join_analysis S) (joins_of joins) in
      let inside : Before = behind b (one_table S t) in
      let left : From = from.Table (the_reference S b.tables t) in
      let found : FromSoFar = (
        joins_become S outer (known S t ∷ []) inside left analyses,
        known S t ∷ map (λ j. known S j.table) analyses,
        state (behind b (both (one_table S t) (all_contents (map (λ j. j.content) analyses)))),
      ) in
      chain_at S c outer others (state b) [] (joins_of joins) refl same
      ∙ then-answer (enter S others [] t (state b)) (table_faults S (others ++ []) t) (the_reference S b.tables t, known S t ∷ [], numbered S (b.tables ++ t ∷ []) b.aggregates) _ _ _ (enter-answer S others [] t b.tables b.aggregates)
      (ap (λ k. through (map (join_in S) (joins_of joins)) outer others (left, known S t ∷ [], numbered S (b.tables ++ t ∷ []) k)) (plus-nothing b.aggregates)
      ∙ through-answer joins outer others (known S t ∷ []) inside left
      ∙ ap (λ (m : Before). answer (joins_faults S outer others (known S t ∷ []) analyses) (joins_become S outer (known S t ∷ []) inside left analyses, known S t ∷ map (λ j. known S j.table) analyses, state m)) (behind-both b (one_table S t) (all_contents (map (λ j. j.content) analyses))))
      ∙ ap (λ o. answer (table_faults S o t ++ joins_faults S outer others (known S t ∷ []) analyses) found) (append-nil others))
    where
      plus-nothing : (n : ℕ) → n ≡ n + 0
      plus-nothing n = omega arith

  abbrev pub ProvedChain : Type 0
  ProvedChain = (c : Chain) × ChainIs c (chain_analysis S c)

  abbrev pub chains_of : List ProvedChain → List Chain
  chains_of = map (λ c. c.0)

  commas-answer : (chains : List ProvedChain) (outer : Scopes) (left : From) (scope : Scope) (b : Before)
      → commas (map (chain_in S) (chains_of chains)) outer (left, scope, state b)
      ≡ answer (chains_faults outer scope (map (chain_analysis S) (chains_of chains)))
      (commas_become outer b left (map (chain_analysis S) (chains_of chains)), scope ++ scope_of_from (map (chain_analysis S) (chains_of chains)), state (behind b (from_content (map (chain_analysis S) (chains_of chains)))))
  commas-answer [] outer left scope b =
      ap (λ c. Ok (left, c, state b)) (sym (append-nil scope)) ∙ ap (λ (m : Before). Ok (left, scope ++ [], state m)) (sym (behind-nothing b))
  commas-answer (c ∷ chains) outer left scope b =
      let analysis = chain_analysis S c.0 in
      let analyses = map (chain_analysis S) (chains_of chains) in
      let further : From = from.Comma left (analysis.becomes outer b) in
      then-answer (chain_in S c.0 outer scope (state b)) (analysis.faults outer scope) (analysis.becomes outer b, analysis.scope, state (behind b analysis.content)) _ _ _ (c.1 outer scope b)
      (commas-answer chains outer further (scope ++ analysis.scope) (behind b analysis.content)
      ∙ ap (λ o. answer (chains_faults outer (scope ++ analysis.scope) analyses) (commas_become outer (behind b analysis.content) further analyses, o, state (behind (behind b analysis.content) (from_content analyses)))) (append_assoc scope analysis.scope (scope_of_from analyses))
      ∙ ap (λ (m : Before). answer (chains_faults outer (scope ++ analysis.scope) analyses) (commas_become outer (behind b analysis.content) further analyses, scope ++ (analysis.scope ++ scope_of_from analyses), state m)) (behind-both b analysis.content (from_content analyses)))

  from-answer : (chains : List ProvedChain) (outer : Scopes) (b : Before) → from_in (map (chain_in S) (chains_of chains)) outer (state b)
      ≡ answer (from_faults outer (map (chain_analysis S) (chains_of chains)))
      (from_becomes outer b (map (chain_analysis S) (chains_of chains)), scope_of_from (map (chain_analysis S) (chains_of chains)), state (behind b (from_content (map (chain_analysis S) (chains_of chains)))))
  from-answer [] outer b = refl
  from-answer (c ∷ chains) outer b =
      let analysis = chain_analysis S c.0 in
      let analyses = map (chain_analysis S) (chains_of chains) in
      then-answer (chain_in S c.0 outer [] (state b)) (analysis.faults outer []) (analysis.becomes outer b, analysis.scope, state (behind b analysis.content)) _ _ _ (c.1 outer [] b)
      (commas-answer chains outer (analysis.becomes outer b) analysis.scope (behind b analysis.content)
      ∙ ap (λ (m : Before). answer (chains_faults outer analysis.scope analyses) (commas_become outer (behind b analysis.content) (analysis.becomes outer b) analyses, analysis.scope ++ scope_of_from analyses, state m)) (behind-both b analysis.content (from_content analyses)))

  -- ---- SELECT

  abbrev pub filter_of : Option ProvedCondition → Option Condition
  filter_of None = None
  filter_of (Some c) = Some c.0

  filter-answer : (w : Option ProvedCondition) (scopes : Scopes) (b : Before) → filter_in (option_map (condition_in S) (filter_of w)) scopes (state b)
      ≡ answer (filter_faults scopes (option_map (condition_analysis S) (filter_of w)))
      (filter_becomes scopes b (option_map (condition_analysis S) (filter_of w)), state (behind b (filter_content (option_map (condition_analysis S) (filter_of w)))))
  filter-answer None scopes b = ap (λ (m : Before). Ok (None, state m)) (sym (behind-nothing b))
  filter-answer (Some c) scopes b =
      let analysis = condition_analysis S c.0 in
      made-answer (condition_in S c.0 scopes (state b)) (analysis.faults scopes) (analysis.becomes scopes b, state (behind b analysis.content)) (λ part. (Some part.0, part.1)) (c.1 scopes b)

  pub answer-select : (q : Select) (cs : List ProvedChain) (w : Option ProvedCondition) → chains_of cs ≡ (out-Select q).from → filter_of w ≡ (out-Select q).filter → SelectIs q (select_analysis S q)
  answer-select q cs w from_is filter_is = subst (SelectIs q) (sym (analysis-select S q ∙ ap (λ chains. select_layer (select_parts S x (map (chain_analysis S) chains) (option_map (condition_analysis S) x.filter))) (sym from_is)
      ∙ ap (λ o. select_layer (select_parts S x (map (chain_analysis S) (chains_of cs)) (option_map (condition_analysis S) o))) (sym filter_is))) (λ outer b.
      let own : Content = record { tables = []; aggregates = aggregates x.list } in
      let inside : Before = behind b own in
      let chains = map (chain_analysis S) (chains_of cs) in
      let filter = option_map (condition_analysis S) (filter_of w) in
      let scope = scope_of_from chains in
      let scopes : Scopes = scope ∷ outer in
      let keys = map (the_key scopes) x.group in
      let further : Before = behind inside (from_content chains) in
      let last : Before = behind further (filter_content filter) in
      let values = having_values x.having in
      let asked = the_asked scopes last.aggregates values in
      let grouped = is_grouped keys x.list x.having in
      let analysis = select_layer (select_parts S x chains filter) in
      let ended : Numbered = with_asked (state last) (record { items = asked; next_aggregate = last.aggregates + calls values }) in
      select_at S q outer (state b) (state inside) (chains_of cs) x.group (sym (state-aggregates b (aggregates x.list))) from_is refl
      ∙ then-answer (from_in (map (chain_in S) (chains_of cs)) outer (state inside)) (from_faults outer chains) (from_becomes outer inside chains, scope, state further) _ _ _ (from-answer cs outer inside)
      (then-answer (filter_in (option_map (condition_in S) x.filter) scopes (state further)) (filter_faults scopes filter) (filter_becomes scopes further filter, state last) _ _ _
      (ap (λ o. filter_in (option_map (condition_in S) o) scopes (state further)) (sym filter_is) ∙ filter-answer w scopes further)
      (then-answer (each (key_in scopes) x.group) (flat_map (key_faults scopes) x.group) keys _ _ _ (each-answer (key_in scopes) (key_faults scopes) (the_key scopes) (key-answer scopes) x.group)
      (then-answer (having_asked scopes keys x.having (nothing_asked (state last))) (having_faults scopes keys x.having) (record { items = asked; next_aggregate = last.aggregates + calls values }) _ _ _ (having-answer scopes keys x.having last.aggregates)
      (made-answer (outputs_in scope scopes grouped keys b.aggregates x.list) (list_faults scope scopes grouped keys x.list) (shown scope scopes b.aggregates x.list)
      (λ outputs. (record { block = block_of x.distinct (from_becomes outer inside chains) (filter_becomes scopes further filter) grouped keys x.having asked outputs; outputs = outputs; scope = scope }, ended))
      (list-answer scopes grouped keys scope b.aggregates x.list)))))
      ∙ ap (λ n. answer (analysis.faults outer) (bound_select analysis outer b, n)) (state-aggregates last (calls values))
      ∙ ap (λ (m : Before). answer (analysis.faults outer) (bound_select analysis outer b, state m))
      (behind-both further (filter_content filter) (having_content x.having) ∙ behind-both inside (from_content chains) (both (filter_content filter) (having_content x.having))
      ∙ behind-both b own (both (from_content chains) (both (filter_content filter) (having_content x.having)))))
    where
      x : Select-F Condition Chain Join Select
      x = out-Select q

  pub has-kinds : (q : Select) → HasKinds (select_analysis S q)
  has-kinds q = subst HasKinds (sym (analysis-select S q)) (λ outer number.
      let scope = scope_of_from (map (chain_analysis S) (out-Select q).from) in
      shown-kinds scope (scope ∷ outer) number (out-Select q).list)
