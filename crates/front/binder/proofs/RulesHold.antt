-- What a statement without a fault means is its query by the rules.
use Rattle.std.proofs.Common.{◌≡◌, refl, sym, ◌∙◌, ap, subst, ℕ, suc, ◌+◌, if◌then◌else◌, ◌==◌, Bool, true, false, not, List, [], ◌∷◌, ◌++◌, flat_map, map, is_some, unwrap_or, Option, Some, None, option_map, arith, append_assoc, append-nil, bytes_eq}
use Rattle.std.specs.List.{list_all}
use Rattle.std.proofs.lemmas.Bool.{eqb-true}
use Rattle.std.proofs.lemmas.Slice.Eq.{bytes_eq-Decides}
use Rattle.schema.specs.declared.schema.Kind.{Kind}
use Rattle.schema.specs.declared.schema.Table.{Table}
use Rattle.schema.specs.declared.schema.Schema.{Schema}
use Rattle.schema.specs.Each.{Pairs}
use Rattle.sql_parse.specs.declared.statement.AggregateFunction.{AggregateFunction}
use Rattle.sql_parse.specs.declared.statement.Chain.{Chain, out-Chain, roll-Chain, out-roll-Chain}
use Rattle.sql_parse.specs.declared.statement.ColumnName.{ColumnName}
use Rattle.sql_parse.specs.declared.statement.Condition.{Condition, roll-Condition}
use Rattle.sql_parse.specs.declared.statement.Condition.TheVariants as tree
use Rattle.sql_parse.specs.declared.statement.Condition.TheOpen.{Condition-F, Join-F, Chain-F, Select-F}
use Rattle.sql_parse.specs.declared.statement.Condition.TheFolds.{ind-Select, map-Condition, map-Join, map-Chain, map-Select}
use Rattle.sql_parse.specs.declared.statement.HavingCondition.{HavingCondition}
use Rattle.sql_parse.specs.declared.statement.ItemValue.{ItemValue}
use Rattle.sql_parse.specs.declared.statement.ItemValue.TheVariants as text
use Rattle.sql_parse.specs.declared.statement.Join.{Join, out-Join, roll-Join, out-roll-Join}
use Rattle.sql_parse.specs.declared.statement.OrderKey.{OrderKey}
use Rattle.sql_parse.specs.declared.statement.Select.{Select, out-Select, roll-Select, out-roll-Select}
use Rattle.sql_parse.specs.declared.statement.SelectItem.{SelectItem}
use Rattle.sql_parse.specs.declared.statement.SelectList.{SelectList}
use Rattle.sql_parse.specs.declared.statement.SelectList.TheVariants as list
use Rattle.sql_parse.specs.declared.statement.TableName.{TableName}
use Rattle.sql_parse.specs.declared.statement.Term as terms
use Rattle.sql_parse.specs.declared.statement.Term.TheVariants as written
use Rattle.query.specs.declared.query.From.{From}
use Rattle.query.specs.declared.query.From.TheVariants as from
use Rattle.query.specs.declared.query.Item.{Item}
use Rattle.query.specs.declared.query.SortKey.{SortKey}
use Rattle.binder.specs.declared.fault.BindReason.{BindReason}
use Rattle.binder.specs.declared.fault.BindRefusal.{BindRefusal}
use Rattle.binder.specs.declared.output.Output.{Output}
use Rattle.binder.specs.Analyses.{Before, Content, behind, ConditionAnalysis, JoinAnalysis, ChainAnalysis, SelectAnalysis, all_become, condition_layer, one_table, joins_faults, joins_become, chain_layer, chains_faults, commas_become, from_faults, from_becomes, from_content, filter_faults, filter_becomes, scope_of_from, select_layer, condition_analysis, join_analysis, chain_analysis, select_analysis, having_faults, filter_content}
use Rattle.binder.specs.Lookups.{find_table}
use Rattle.binder.specs.Meanings.{HasAny, IsFirst, Means, HasInstance}
use Rattle.binder.specs.Ordering.{first_place, same_item}
use Rattle.binder.specs.Outputs.{aggregates, is_aggregate, is_grouped, is_call}
use Rattle.binder.specs.Parts.{unless, name_faults, the_column, term_faults, the_term, no_table, the_table, known, table_faults, the_reference, key_faults, the_key, aggregate_faults, the_aggregate, aggregate_kind, item_faults, the_item, item_kind, the_outputs, list_faults, shown, is_one, first_kind, is_empty, are_one, items_meant, place_of, order_faults, the_sort_key, asked_faults, the_asked}
use Rattle.binder.specs.Rules.{BindsTerm, BindsKey, BindsAggregate, BindsValue, BindsItem, BindsList, BindsTable, BindsCondition, BindsConditions, BindsJoins, BindsChain, BindsCommas, BindsFilter, BindsSelect, BindsOrder, BindsAsked, BindsHaving}
use Rattle.binder.specs.Scopes.{Scope, Scopes, is_taken, known_name, instance_named}
use Rattle.binder.specs.Kinds.{are_comparable}
use Rattle.binder.specs.HavingShapes.{having_fits, having_values}
use Rattle.binder.proofs.AnalysisAnswers.{bound_select, has-kinds}
use Rattle.binder.proofs.AnalysisNumbers.{nil-parts}
use Rattle.binder.proofs.AnalysisParts.{analysis-condition, analysis-join, analysis-chain, select_parts, analysis-select}
use Rattle.binder.proofs.FirstOnes.{first-here, first-behind, none-here}
use Rattle.binder.proofs.Indexes.{taken-instance}
use Rattle.binder.proofs.NameMeanings.{names_mean, FoundInstance, found-instance}
use Rattle.binder.proofs.PartAnswers.{answer, name-answer}
use Rattle.binder.proofs.Requirements.{held}
use Rattle.binder.proofs.HavingRules.{having-holds}

-- ---- requirements

pub name-means : (scopes : Scopes) (c : ColumnName) → name_faults scopes c ≡ [] → Means c scopes (the_column scopes c)
name-means scopes c none = (names_mean c scopes (the_column scopes c)).0 (name-answer scopes c ∙ ap (λ fs. answer fs (the_column scopes c)) none)

-- ---- terms and items

pub term-binds : (scopes : Scopes) (a : terms.Term) → term_faults scopes a ≡ [] → BindsTerm scopes a (the_term scopes a)
term-binds scopes (written.Column c) none = (the_column scopes c, name-means scopes c none, refl)
term-binds scopes (written.Literal v) none = refl

key-binds : (scopes : Scopes) (c : ColumnName) → key_faults scopes c ≡ [] → BindsKey scopes c (the_key scopes c)
key-binds scopes c none =
    let parts = nil-parts (name_faults scopes c) _ none in
    (the_column scopes c, name-means scopes c parts.0, eqb-true _ _ (held _ _ _ parts.1), refl)

aggregate-binds : (scopes : Scopes) (f : AggregateFunction) (at : ℕ) (o : Option ColumnName) → aggregate_faults scopes f at o ≡ [] → BindsAggregate scopes f o (the_aggregate scopes f o) (aggregate_kind scopes f o)
aggregate-binds scopes f at None none = (refl, refl)
aggregate-binds scopes f at (Some c) none =
    let parts = nil-parts (name_faults scopes c) _ none in
    let others = nil-parts (unless ((the_column scopes c).column.level == 0) _ at) _ parts.1 in
    (the_column scopes c, name-means scopes c parts.0, eqb-true _ _ (held _ _ _ others.0), held _ _ _ others.1, refl, refl)

value-binds : (scopes : Scopes) (grouped : Bool) (keys : List ℕ) (number : ℕ) (v : ItemValue) → item_faults scopes grouped keys v ≡ [] → BindsValue scopes grouped keys v (the_item scopes number v) (item_kind scopes v)
value-binds scopes grouped keys number (text.Column c) none =
    let parts = nil-parts (name_faults scopes c) _ none in
    (the_column scopes c, name-means scopes c parts.0, held _ _ _ parts.1, refl, refl)
value-binds scopes grouped keys number (text.Aggregate call) none =
    (number, the_aggregate scopes call.function call.column, aggregate-binds scopes call.function call.at call.column none, refl)

-- what a HAVING names
abbrev next_of : ℕ → ItemValue → ℕ
next_of number v = if is_call v then number + 1 else number

abbrev found_of : Scopes → ℕ → List ItemValue → List (Item × Kind)
found_of scopes number [] = []
found_of scopes number (v ∷ values) = (the_item scopes number v, item_kind scopes v) ∷ found_of scopes (next_of number v) values

found-items : (scopes : Scopes) (number : ℕ) (values : List ItemValue) → the_asked scopes number values ≡ map (λ f. f.0) (found_of scopes number values)
found-items scopes number [] = refl
found-items scopes number (v ∷ values) = ap (λ items. the_item scopes number v ∷ items) (found-items scopes (next_of number v) values)

found-kinds : (scopes : Scopes) (number : ℕ) (values : List ItemValue) → map (λ f. f.1) (found_of scopes number values) ≡ map (item_kind scopes) values
found-kinds scopes number [] = refl
found-kinds scopes number (v ∷ values) = ap (λ ks. item_kind scopes v ∷ ks) (found-kinds scopes (next_of number v) values)

asked-binds : (scopes : Scopes) (keys : List ℕ) (number : ℕ) (v : ItemValue) → asked_faults scopes keys v ≡ [] → BindsAsked scopes keys v (the_item scopes number v, item_kind scopes v)
asked-binds scopes keys number (text.Column c) none =
    let parts = nil-parts (name_faults scopes c) _ none in
    (the_column scopes c, name-means scopes c parts.0, held _ _ _ parts.1, refl, refl)
asked-binds scopes keys number (text.Aggregate call) none = value-binds scopes true keys number (text.Aggregate call) none

all-asked-bind : (scopes : Scopes) (keys : List ℕ) (number : ℕ) (values : List ItemValue) → flat_map (asked_faults scopes keys) values ≡ [] → Pairs (BindsAsked scopes keys) values (found_of scopes number values)
all-asked-bind scopes keys number [] none = tt
all-asked-bind scopes keys number (v ∷ values) none =
    let parts = nil-parts (asked_faults scopes keys v) _ none in
    (asked-binds scopes keys number v parts.0, all-asked-bind scopes keys (next_of number v) values parts.1)

having-binds : (scopes : Scopes) (keys : List ℕ) (number : ℕ) (having : Option HavingCondition) → having_faults scopes keys having ≡ [] → BindsHaving scopes keys having (the_asked scopes number (having_values having))
having-binds scopes keys number having none =
    let parts = having-holds scopes keys having none in
    let values = having_values having in
    (found_of scopes number values, all-asked-bind scopes keys number values parts.0, ap (λ ks. having_fits ks having) (found-kinds scopes number values) ∙ parts.1, found-items scopes number values)

items-bind : (scopes : Scopes) (grouped : Bool) (keys : List ℕ) (number : ℕ) (items : List SelectItem) → flat_map (λ i. item_faults scopes grouped keys i.value) items ≡ []
    → Pairs (BindsItem scopes grouped keys) items (the_outputs scopes number items)
items-bind scopes grouped keys number [] none = tt
items-bind scopes grouped keys number (i ∷ items) none =
    let parts = nil-parts (item_faults scopes grouped keys i.value) _ none in
    ((refl, value-binds scopes grouped keys number i.value parts.0), items-bind scopes grouped keys (if is_aggregate i then number + 1 else number) items parts.1)

list-binds : (scope : Scope) (scopes : Scopes) (grouped : Bool) (keys : List ℕ) (number : ℕ) (l : SelectList) → list_faults scope scopes grouped keys l ≡ [] → BindsList scope scopes grouped keys l (shown scope scopes number l)
list-binds scope scopes grouped keys number (list.Items items) none = items-bind scopes grouped keys number items none
list-binds scope scopes grouped keys number (list.Star at) none = (refl, held _ _ at none)

pub each-pairs : {A B : Type 0} (R : A → B → Type 0) (faults : A → List BindRefusal) (value : A → B) → ((x : A) → faults x ≡ [] → R x (value x)) → (xs : List A) → flat_map faults xs ≡ [] → Pairs R xs (map value xs)
each-pairs R faults value one [] none = tt
each-pairs R faults value one (x ∷ xs) none = let parts = nil-parts (faults x) (flat_map faults xs) none in (one x parts.0, each-pairs R faults value one xs parts.1)

-- ---- tables

-- the table that is found is the first of its name
unfoldable pub FoundTable : List ℕ → ℕ → List Table → Option (ℕ × Table) → Type 0
FoundTable name n ts None = HasAny (λ (e : Table). e.name ≡ name) ts → ⊥
FoundTable name n ts (Some p) = (i : ℕ) × IsFirst (λ (e : Table). e.name ≡ name) ts i p.1 × (p.0 ≡ n + i)

table-behind : (name : List ℕ) (n : ℕ) (t : Table) (ts : List Table) (o : Option (ℕ × Table)) → (t.name ≡ name → ⊥) → FoundTable name (n + 1) ts o → FoundTable name n (t ∷ ts) o
unfolding FoundTable
table-behind name n t ts None other none = none-here (λ (e : Table). e.name ≡ name) t ts other none
table-behind name n t ts (Some p) other (i, first, at) = (suc i, first-behind (λ (e : Table). e.name ≡ name) t ts i p.1 other first, omega (arith, at))

pub found-table : (name : List ℕ) (n : ℕ) (ts : List Table) → FoundTable name n ts (find_table n ts name)
unfolding FoundTable
found-table name n [] = λ (i, t, (at, holds)). cc
found-table name n (t ∷ ts) = by (bytes_eq t.name name) refl (found-table name (n + 1) ts) where
  by : (b : Bool) → bytes_eq t.name name ≡ b → FoundTable name (n + 1) ts (find_table (n + 1) ts name) → FoundTable name n (t ∷ ts) (if b then Some (n, t) else find_table (n + 1) ts name)
  by true is more = (0, first-here (λ (e : Table). e.name ≡ name) t ts ((bytes_eq-Decides t.name name).0 is), omega arith)
  by false is more = table-behind name n t ts (find_table (n + 1) ts name) (λ same. let yes : bytes_eq t.name name ≡ true = (bytes_eq-Decides t.name name).1 same in cc) more

module _ (S : Schema) where
  pub table-first : (t : TableName) → is_some (find_table 0 S.tables t.name.text) ≡ true → IsFirst (λ e. e.name ≡ t.name.text) S.tables (the_table S t).0 (the_table S t).1
  unfolding FoundTable
  table-first t there = by (find_table 0 S.tables t.name.text) there (found-table t.name.text 0 S.tables) where
    by : (o : Option (ℕ × Table)) → is_some o ≡ true → FoundTable t.name.text 0 S.tables o → IsFirst (λ e. e.name ≡ t.name.text) S.tables (unwrap_or o no_table).0 (unwrap_or o no_table).1
    by None some found = cc some
    by (Some p) some (i, first, at) = let same : i ≡ p.0 = omega (arith, at) in subst (λ j. IsFirst (λ (e : Table). e.name ≡ t.name.text) S.tables j p.1) same first

  free-of : (name : Rattle.sql_parse.specs.declared.name.Name.Name) (others : Scope) → not (is_taken name.text others) ≡ true → HasInstance name others → ⊥
  unfolding FoundInstance
  free-of name others free = by (instance_named name.text 0 others) (subst (λ b. not b ≡ true) (taken-instance name.text 0 others) free) (found-instance name 0 others) where
    by : (o : Option (ℕ × Table)) → not (is_some o) ≡ true → FoundInstance name 0 others o → HasInstance name others → ⊥
    by None none found = found
    by (Some p) none found = cc none

  pub table-binds : (others : Scope) (t : TableName) (before : List TableName) → table_faults S others t ≡ [] → BindsTable S others t (the_reference S before t) (known S t)
  table-binds others t before none =
      let parts = nil-parts (unless (is_some (find_table 0 S.tables t.name.text)) _ t.name.at) _ none in
      record { entry = table-first t (held _ _ t.name.at parts.0); name = refl; free = free-of (known_name t) others (held _ _ (known_name t).at parts.1) }

  -- ---- conditions

  abbrev ConditionBinds : Condition → ConditionAnalysis → Type 0
  ConditionBinds c analysis = (scopes : Scopes) (b : Before) → analysis.faults scopes ≡ [] → BindsCondition S scopes c (analysis.becomes scopes b)

  -- and what binds behind it
  abbrev JoinBinds : Join → JoinAnalysis → Type 0
  JoinBinds j analysis = (outer : Scopes) (others chain : Scope) (b : Before) (left : From) (js : List Join) (all : Scope) (whole : From) → analysis.faults outer others chain ≡ []
      → BindsJoins S outer others (chain ++ known S analysis.table ∷ []) (analysis.becomes outer chain b left) js all whole → BindsJoins S outer others chain left (j ∷ js) all whole

  abbrev ChainBinds : Chain → ChainAnalysis → Type 0
  ChainBinds c analysis = (outer : Scopes) (others : Scope) (b : Before) → analysis.faults outer others ≡ [] → BindsChain S outer others c analysis.scope (analysis.becomes outer b)

  abbrev SelectBinds : Select → SelectAnalysis → Type 0
  SelectBinds q analysis = (outer : Scopes) (b : Before) → analysis.faults outer ≡ [] → BindsSelect S outer q (bound_select S analysis outer b)

  abbrev ProvedCondition : Type 0
  ProvedCondition = (c : Condition) × ConditionBinds c (condition_analysis S c)

  abbrev ProvedJoin : Type 0
  ProvedJoin = (j : Join) × JoinBinds j (join_analysis S j)

  abbrev ProvedChain : Type 0
  ProvedChain = (c : Chain) × ChainBinds c (chain_analysis S c)

  abbrev ProvedSelect : Type 0
  ProvedSelect = (q : Select) × SelectBinds q (select_analysis S q)

  abbrev analyses_of : List ProvedCondition → List ConditionAnalysis
  analyses_of cs = map (condition_analysis S) (map (λ c. c.0) cs)

  all-bind : (cs : List ProvedCondition) (scopes : Scopes) (b : Before) → flat_map (λ c. c.faults scopes) (analyses_of cs) ≡ [] → BindsConditions S scopes (map (λ c. c.0) cs) (all_become scopes b (analyses_of cs))
  all-bind [] scopes b none = BindsConditions.no_condition
  all-bind (c ∷ cs) scopes b none =
      let analysis = condition_analysis S c.0 in
      let parts = nil-parts (analysis.faults scopes) (flat_map (λ c. c.faults scopes) (analyses_of cs)) none in
      BindsConditions.conditions (c.1 scopes b parts.0) (all-bind cs scopes (behind b analysis.content) parts.1)

  form-binds : (x : Condition-F Condition Chain Join Select)
      → ConditionBinds (roll-Condition x) (condition_layer (map-Condition Condition Chain Join Select ConditionAnalysis ChainAnalysis JoinAnalysis SelectAnalysis (condition_analysis S) (chain_analysis S) (join_analysis S) (select_analysis S) x))
      → ConditionBinds (roll-Condition x) (condition_analysis S (roll-Condition x))
  form-binds x binds = subst (ConditionBinds (roll-Condition x)) (sym (analysis-condition S x _ refl)) binds

  one-output : (outputs : List Output) (kinds : List Kind) → map (λ o. o.kind) outputs ≡ kinds → is_one kinds ≡ true → (o : Output) × (outputs ≡ o ∷ []) × (first_kind kinds ≡ Some o.kind)
  one-output [] kinds same one = let is : false ≡ true = ap is_one same ∙ one in cc
  one-output (o ∷ []) kinds same one = (o, refl, ap first_kind (sym same))
  one-output (o ∷ p ∷ others) kinds same one = let is : false ≡ true = ap is_one same ∙ one in cc

  condition-binds : (y : Condition-F ProvedCondition ProvedChain ProvedJoin ProvedSelect)
      → let x = map-Condition _ _ _ _ Condition Chain Join Select (λ c. c.0) (λ c. c.0) (λ j. j.0) (λ q. q.0) y in ConditionBinds (roll-Condition x) (condition_analysis S (roll-Condition x))
  condition-binds (Condition-F.Compare a op b) = form-binds (Condition-F.Compare a op b) (λ scopes n none.
      let left = nil-parts (term_faults scopes a) _ none in
      let right = nil-parts (term_faults scopes b) _ left.1 in
      BindsCondition.comparison a b op (the_term scopes a) (the_term scopes b) (tree.rolls-Compare a op b) (term-binds scopes a left.0) (term-binds scopes b right.0) (held _ _ op.at right.1) refl)
  condition-binds (Condition-F.IsNull a) = form-binds (Condition-F.IsNull a) (λ scopes n none. BindsCondition.null_test a (the_term scopes a) (tree.rolls-IsNull a) (term-binds scopes a none) refl)
  condition-binds (Condition-F.Not c) = form-binds (Condition-F.Not c.0) (λ scopes n none. BindsCondition.negation c.0 _ (tree.rolls-Not c.0) (c.1 scopes n none) refl)
  condition-binds (Condition-F.And cs) = form-binds (Condition-F.And (map (λ c. c.0) cs)) (λ scopes n none. BindsCondition.conjunction (map (λ c. c.0) cs) _ (tree.rolls-And (map (λ c. c.0) cs)) (all-bind cs scopes n none) refl)
  condition-binds (Condition-F.Or cs) = form-binds (Condition-F.Or (map (λ c. c.0) cs)) (λ scopes n none. BindsCondition.disjunction (map (λ c. c.0) cs) _ (tree.rolls-Or (map (λ c. c.0) cs)) (all-bind cs scopes n none) refl)
  condition-binds (Condition-F.Exists q) = form-binds (Condition-F.Exists q.0) (λ scopes n none.
      BindsCondition.existence q.0 (bound_select S (select_analysis S q.0) scopes n) (tree.rolls-Exists q.0) (q.1 scopes n none) refl)
  condition-binds (Condition-F.In a at q) = form-binds (Condition-F.In a at q.0) (λ scopes n none.
      let analysis = select_analysis S q.0 in
      let left = nil-parts (term_faults scopes a) _ none in
      let query = nil-parts (analysis.faults scopes) _ left.1 in
      let tests = nil-parts (unless (is_one (analysis.kinds scopes)) _ at) _ query.1 in
      let one = one-output (analysis.outputs scopes n.aggregates) (analysis.kinds scopes) (has-kinds S q.0 scopes n.aggregates) (held _ _ at tests.0) in
      BindsCondition.membership a at q.0 (the_term scopes a) (bound_select S analysis scopes n) one.0 (tree.rolls-In a at q.0) (term-binds scopes a left.0) (q.1 scopes n query.0) one.1
      (ap (are_comparable (the_term scopes a).kind) (sym one.2) ∙ held _ _ at tests.1) refl)

  -- ---- FROM

  join-binds : (j : Join) → ConditionBinds (out-Join j).condition (condition_analysis S (out-Join j).condition) → JoinBinds j (join_analysis S j)
  join-binds j on = subst (JoinBinds j) (sym (analysis-join S j)) (λ outer others chain b left js all whole none more.
      let t = (out-Join j).table in
      let parts = nil-parts (table_faults S (others ++ chain) t) _ none in
      BindsJoins.joins j (the_reference S b.tables t) (known S t) _ (table-binds (others ++ chain) t b.tables parts.0) (on ((chain ++ known S t ∷ []) ∷ outer) (behind b (one_table S t)) parts.1) more)

  abbrev joins_of : List ProvedJoin → List JoinAnalysis
  joins_of joins = map (join_analysis S) (map (λ j. j.0) joins)

  joins-bind : (joins : List ProvedJoin) (outer : Scopes) (others chain : Scope) (b : Before) (left : From) → joins_faults S outer others chain (joins_of joins) ≡ []
      → BindsJoins S outer others chain left (map (λ j. j.0) joins) (chain ++ map (λ j. known S j.table) (joins_of joins)) (joins_become S outer chain b left (joins_of joins))
  joins-bind [] outer others chain b left none = subst (λ all. BindsJoins S outer others chain left [] all left) (sym (append-nil chain)) BindsJoins.no_join
  joins-bind (j ∷ joins) outer others chain b left none =
      let analysis = join_analysis S j.0 in
      let right : Scope = chain ++ known S analysis.table ∷ [] in
      let parts = nil-parts (analysis.faults outer others chain) (joins_faults S outer others right (joins_of joins)) none in
      let further = analysis.becomes outer chain b left in
      j.1 outer others chain b left (map (λ j. j.0) joins) _ _ parts.0
      (subst (λ all. BindsJoins S outer others right further (map (λ j. j.0) joins) all (joins_become S outer right (behind b analysis.content) further (joins_of joins)))
      (append_assoc chain (known S analysis.table ∷ []) (map (λ j. known S j.table) (joins_of joins))) (joins-bind joins outer others right (behind b analysis.content) further parts.1))

  chain-binds : (c : Chain) (joins : List ProvedJoin) → map (λ j. j.0) joins ≡ (out-Chain c).joins → ChainBinds c (chain_analysis S c)
  chain-binds c joins same = subst (ChainBinds c) (sym (analysis-chain S c ∙ ap (λ js. chain_layer S (record { table = (out-Chain c).table; joins = map (join_analysis S) js })) (sym same))) (λ outer others b none.
      let t = (out-Chain c).table in
      let parts = nil-parts (table_faults S others t) _ none in
      let left : From = from.Table (the_reference S b.tables t) in
      let binds = joins-bind joins outer others (known S t ∷ []) (behind b (one_table S t)) left parts.1 in
      BindsChain.chain c (the_reference S b.tables t) (known S t) (table-binds others t b.tables parts.0)
      (subst (λ js. BindsJoins S outer others (known S t ∷ []) left js (known S t ∷ map (λ j. known S j.table) (joins_of joins)) (joins_become S outer (known S t ∷ []) (behind b (one_table S t)) left (joins_of joins))) same binds))

  abbrev chains_of : List ProvedChain → List ChainAnalysis
  chains_of chains = map (chain_analysis S) (map (λ c. c.0) chains)

  commas-bind : (chains : List ProvedChain) (outer : Scopes) (scope : Scope) (b : Before) (left : From) → chains_faults outer scope (chains_of chains) ≡ []
      → BindsCommas S outer scope left (map (λ c. c.0) chains) (scope ++ scope_of_from (chains_of chains)) (commas_become outer b left (chains_of chains))
  commas-bind [] outer scope b left none = subst (λ all. BindsCommas S outer scope left [] all left) (sym (append-nil scope)) BindsCommas.no_comma
  commas-bind (c ∷ chains) outer scope b left none =
      let analysis = chain_analysis S c.0 in
      let parts = nil-parts (analysis.faults outer scope) (chains_faults outer (scope ++ analysis.scope) (chains_of chains)) none in
      let further : From = from.Comma left (analysis.becomes outer b) in
      BindsCommas.commas (c.1 outer scope b parts.0)
      (subst (λ all. BindsCommas S outer (scope ++ analysis.scope) further (map (λ c. c.0) chains) all (commas_become outer (behind b analysis.content) further (chains_of chains)))
      (append_assoc scope analysis.scope (scope_of_from (chains_of chains))) (commas-bind chains outer (scope ++ analysis.scope) (behind b analysis.content) further parts.1))

  -- ---- SELECT

  abbrev filter_of : Option ProvedCondition → Option Condition
  filter_of None = None
  filter_of (Some c) = Some c.0

  filter-binds : (w : Option ProvedCondition) (scopes : Scopes) (b : Before) → filter_faults scopes (option_map (condition_analysis S) (filter_of w)) ≡ []
      → BindsFilter S scopes (filter_of w) (filter_becomes scopes b (option_map (condition_analysis S) (filter_of w)))
  filter-binds None scopes b none = BindsFilter.no_filter
  filter-binds (Some c) scopes b none = BindsFilter.filter (c.1 scopes b none)

  select-binds : (q : Select) (cs : List ProvedChain) (w : Option ProvedCondition) → map (λ c. c.0) cs ≡ (out-Select q).from → filter_of w ≡ (out-Select q).filter → SelectBinds q (select_analysis S q)
  select-binds q cs w from_is filter_is = subst (SelectBinds q) (sym (analysis-select S q ∙ ap (λ chains. select_layer (select_parts S (out-Select q) (map (chain_analysis S) chains) (option_map (condition_analysis S) (out-Select q).filter))) (sym from_is)
      ∙ ap (λ o. select_layer (select_parts S (out-Select q) (chains_of cs) (option_map (condition_analysis S) o))) (sym filter_is))) (by cs from_is)
    where
      by : (cs : List ProvedChain) → map (λ c. c.0) cs ≡ (out-Select q).from → SelectBinds q (select_layer (select_parts S (out-Select q) (chains_of cs) (option_map (condition_analysis S) (filter_of w))))
      by [] is outer b none = cc (nil-parts (from_faults outer []) _ none).0
      by (c ∷ chains) is outer b none =
          let x = out-Select q in
          let own : Content = record { tables = []; aggregates = aggregates x.list } in
          let inside : Before = behind b own in
          let analysis = chain_analysis S c.0 in
          let all = chains_of (c ∷ chains) in
          let filter = option_map (condition_analysis S) (filter_of w) in
          let scope = scope_of_from all in
          let scopes : Scopes = scope ∷ outer in
          let keys = map (the_key scopes) x.group in
          let first = nil-parts (from_faults outer all) _ none in
          let chain = nil-parts (analysis.faults outer []) (chains_faults outer analysis.scope (chains_of chains)) first.0 in
          let next = nil-parts (filter_faults scopes filter) _ first.1 in
          let last = nil-parts (flat_map (key_faults scopes) x.group) _ next.1 in
          let ends = nil-parts (having_faults scopes keys x.having) _ last.1 in
          let number : ℕ = (behind (behind inside (from_content all)) (filter_content filter)).aggregates in
          let where_ = filter-binds w scopes (behind inside (from_content all)) next.0 in
          BindsSelect.select c.0 (map (λ c. c.0) chains) analysis.scope scope (analysis.becomes outer inside) (from_becomes outer inside all) (filter_becomes scopes (behind inside (from_content all)) filter) keys (the_asked scopes number (having_values x.having)) (shown scope scopes b.aggregates x.list)
          (sym is) (c.1 outer [] inside chain.0) (commas-bind chains outer analysis.scope (behind inside analysis.content) (analysis.becomes outer inside) chain.1)
          (subst (λ o. BindsFilter S scopes o (filter_becomes scopes (behind inside (from_content all)) filter)) filter_is where_)
          (each-pairs (BindsKey scopes) (key_faults scopes) (the_key scopes) (key-binds scopes) x.group last.0)
          (having-binds scopes keys number x.having ends.0) (list-binds scope scopes (is_grouped keys x.list x.having) keys b.aggregates x.list ends.1) refl

  -- ---- each part, wherever it stands

  select-by : (y : Select-F ProvedCondition ProvedChain ProvedJoin ProvedSelect) (w : Option ProvedCondition)
      → let z = map-Select _ _ _ _ Condition Chain Join Select (λ c. c.0) (λ c. c.0) (λ j. j.0) (λ q. q.0) (record y { filter = w }) in SelectBinds (roll-Select z) (select_analysis S (roll-Select z))
  select-by y None =
      let z = map-Select _ _ _ _ Condition Chain Join Select (λ c. c.0) (λ c. c.0) (λ j. j.0) (λ q. q.0) (record y { filter = None }) in
      select-binds (roll-Select z) y.from None (sym (ap (λ x. x.from) (out-roll-Select z))) (sym (ap (λ x. x.filter) (out-roll-Select z)))
  select-by y (Some c) =
      let z = map-Select _ _ _ _ Condition Chain Join Select (λ c. c.0) (λ c. c.0) (λ j. j.0) (λ q. q.0) (record y { filter = Some c }) in
      select-binds (roll-Select z) y.from (Some c) (sym (ap (λ x. x.from) (out-roll-Select z))) (sym (ap (λ x. x.filter) (out-roll-Select z)))

  join-by : (y : Join-F ProvedCondition ProvedChain ProvedJoin ProvedSelect)
      → let z = map-Join _ _ _ _ Condition Chain Join Select (λ c. c.0) (λ c. c.0) (λ j. j.0) (λ q. q.0) y in JoinBinds (roll-Join z) (join_analysis S (roll-Join z))
  join-by y =
      let z = map-Join _ _ _ _ Condition Chain Join Select (λ c. c.0) (λ c. c.0) (λ j. j.0) (λ q. q.0) y in
      join-binds (roll-Join z) (subst (λ c. ConditionBinds c (condition_analysis S c)) (sym (ap (λ x. x.condition) (out-roll-Join z))) y.condition.1)

  chain-by : (y : Chain-F ProvedCondition ProvedChain ProvedJoin ProvedSelect)
      → let z = map-Chain _ _ _ _ Condition Chain Join Select (λ c. c.0) (λ c. c.0) (λ j. j.0) (λ q. q.0) y in ChainBinds (roll-Chain z) (chain_analysis S (roll-Chain z))
  chain-by y =
      let z = map-Chain _ _ _ _ Condition Chain Join Select (λ c. c.0) (λ c. c.0) (λ j. j.0) (λ q. q.0) y in
      chain-binds (roll-Chain z) y.joins (sym (ap (λ x. x.joins) (out-roll-Chain z)))

  pub selects-bind : (q : Select) → SelectBinds q (select_analysis S q)
  selects-bind = ind-Select (λ c. ConditionBinds c (condition_analysis S c)) (λ c. ChainBinds c (chain_analysis S c)) (λ j. JoinBinds j (join_analysis S j)) (λ q. SelectBinds q (select_analysis S q))
      (λ x y is. subst (λ z. ConditionBinds (roll-Condition z) (condition_analysis S (roll-Condition z))) is (condition-binds y))
      (λ x y is. subst (λ z. ChainBinds (roll-Chain z) (chain_analysis S (roll-Chain z))) is (chain-by y))
      (λ x y is. subst (λ z. JoinBinds (roll-Join z) (join_analysis S (roll-Join z))) is (join-by y))
      (λ x y is. subst (λ z. SelectBinds (roll-Select z) (select_analysis S (roll-Select z))) is (select-by y y.filter))

-- ---- ORDER BY

abbrev sort_key : List Item → List Output → Bool → SortKey
sort_key items outputs descending = record { item = place_of items outputs; descending = descending }

order-by : (items : List Item) (outputs : List Output) (descending : Bool) (reason again : BindReason) (at : ℕ) → unless (not (is_empty items)) reason at ++ unless (are_one items) again at ≡ []
    → (i : Item) × (others : List Item) × (items ≡ i ∷ others) × (list_all (same_item i) others ≡ true) × (sort_key items outputs descending ≡ record { item = first_place i outputs; descending = descending })
order-by [] outputs descending reason again at none = cc none
order-by (i ∷ others) outputs descending reason again at none = (i, others, refl, held _ again at none, refl)

pub order-binds : (S : Schema) (scope : Scope) (outputs : List Output) (key : OrderKey) → order_faults scope outputs key ≡ [] → BindsOrder S scope outputs key (the_sort_key scope outputs key)
order-binds S scope outputs key none = order-by (items_meant scope outputs key) outputs key.descending _ _ _ none
