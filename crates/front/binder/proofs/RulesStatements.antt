-- A statement becomes a query if and only if it is that query by the rules.
use Rattle.std.proofs.Common.{◌≡◌, refl, sym, ◌∙◌, ap, subst, ℕ, suc, ◌+◌, ◌≤◌, Bool, true, not, nat_le, List, [], ◌∷◌, ◌++◌, flat_map, length, map, take, slice_get, Some, Ok, arith}
use Rattle.std.specs.List.{AllByRecursion, list_all, range_with_len}
use Rattle.std.proofs.lemmas.Bool.Decides.{nat_tests}
use Rattle.std.proofs.lemmas.List.{length-map}
use Rattle.std.proofs.lemmas.List.FromFn.{length-range_with_len}
use Rattle.std.proofs.lemmas.List.Sums.{sum_by-cons}
use Rattle.schema.specs.declared.schema.Table.{Table}
use Rattle.schema.specs.declared.schema.Schema.{Schema}
use Rattle.schema.specs.Each.{Pairs}
use Rattle.sql_parse.specs.declared.statement.OrderKey.{OrderKey}
use Rattle.sql_parse.specs.declared.statement.Select.{Select}
use Rattle.sql_parse.specs.declared.statement.Statement.{Statement}
use Rattle.sql_parse.specs.declared.statement.TableName.{TableName}
use Rattle.query.specs.declared.query.Block.{Block}
use Rattle.query.specs.declared.query.Item.{Item}
use Rattle.query.specs.declared.query.Query.{Query}
use Rattle.query.specs.declared.query.SortKey.{SortKey}
use Rattle.query.specs.declared.query.TableInstance.{TableInstance}
use Rattle.query.specs.Bound.{IsOver}
use Rattle.binder.specs.declared.fault.BindReason.{BindReason}
use Rattle.binder.specs.declared.fault.BindReason.TheVariants.{TooLarge}
use Rattle.binder.specs.declared.output.Output.{Output}
use Rattle.binder.specs.declared.selects.BoundSelect.{BoundSelect}
use Rattle.binder.specs.declared.statement.TheConstants.{MAX_COLUMNS}
use Rattle.binder.specs.Analyses.{Before, behind, first_aggregate, select_analysis, statement_content, statement_faults, statement_outputs, statement_query}
use Rattle.binder.specs.Extents.{is_within, of_select}
use Rattle.binder.specs.Ordering.{first_place, same_item, without_repeats}
use Rattle.binder.specs.Parts.{unless, instances_behind, is_empty, are_one, items_meant, order_faults, place_of, the_sort_key}
use Rattle.binder.specs.Rules.{BindsOrder, Binds, StatementsBind}
use Rattle.binder.specs.Scopes.{Scope, known_name}
use Rattle.binder.specs.Selects.{select_in}
use Rattle.binder.specs.TextNumbers.{Listing, block_listing, columns_together}
use Rattle.binder.proofs.AnalysisAnswers.{bound_select, state}
use Rattle.binder.proofs.AnalysisNumbers.{nil-parts, of_content}
use Rattle.binder.proofs.BoundStatements.{selects_bound}
use Rattle.binder.proofs.Given.{given-ok}
use Rattle.binder.proofs.NumberedStatements.{first-columns, numbered, same-tables, selects-listed, together-widths}
use Rattle.binder.proofs.PartAnswers.{answer}
use Rattle.binder.proofs.RulesHold.{each-pairs, order-binds, selects-bind}
use Rattle.binder.proofs.RulesOnly.{Runs}
use Rattle.binder.proofs.RulesTrees.{selects-only}
use Rattle.binder.proofs.StatementAnswers.{selects-answer, start, statements_accepted}
use Rattle.binder.proofs.Requirements.{held, no-faults, required}

-- ---- ORDER BY

order-by-only : (items : List Item) (outputs : List Output) (descending : Bool) (reason again : BindReason) (at : ℕ) (k : SortKey) (i : Item) (others : List Item) → items ≡ i ∷ others → list_all (same_item i) others ≡ true
    → k ≡ record { item = first_place i outputs; descending = descending }
    → (unless (not (is_empty items)) reason at ++ unless (are_one items) again at ≡ []) × (k ≡ record { item = place_of items outputs; descending = descending })
order-by-only items outputs descending reason again at k i others are one is =
    subst (λ js. (unless (not (is_empty js)) reason at ++ unless (are_one js) again at ≡ []) × (k ≡ record { item = place_of js outputs; descending = descending })) (sym are) (required _ again at one, is)

orders-only : (S : Schema) (scope : Scope) (outputs : List Output) (keys : List OrderKey) (ks : List SortKey) → Pairs (BindsOrder S scope outputs) keys ks
    → (flat_map (order_faults scope outputs) keys ≡ []) × (ks ≡ map (the_sort_key scope outputs) keys)
orders-only S scope outputs [] [] pairs = (refl, refl)
orders-only S scope outputs [] (k ∷ ks) pairs = absurd pairs
orders-only S scope outputs (key ∷ keys) [] pairs = absurd pairs
orders-only S scope outputs (key ∷ keys) (k ∷ ks) pairs =
    let (i, others, are, one, is) = pairs.0 in
    let first : (order_faults scope outputs key ≡ []) × (k ≡ the_sort_key scope outputs key) = order-by-only (items_meant scope outputs key) outputs key.descending _ _ _ k i others are one is in
    let rest = orders-only S scope outputs keys ks pairs.1 in
    let here = first.1 in
    let more = rest.1 in
    let all : k ∷ ks ≡ the_sort_key scope outputs key ∷ map (the_sort_key scope outputs) keys = cc in
    (no-faults _ _ first.0 rest.0, all)

-- ---- table instances

abbrev instance_of : ℕ → Table → List ℕ → ℕ → TableInstance
instance_of table entry name first = record { table = table; entry = entry; name = name; first_column = first }

-- the columns of table instances are numbered on from n
abbrev GoOn : ℕ → List TableInstance → Type 0
GoOn n xs = (i : ℕ) (t : TableInstance) → slice_get xs i ≡ Some t → t.first_column ≡ n + columns_together (take i xs)

go-on : (n : ℕ) (x : TableInstance) (xs : List TableInstance) → GoOn n (x ∷ xs) → GoOn (n + length x.entry.columns) xs
go-on n x xs on i t is =
    let here = on (suc i) t is in
    let sum = sum_by-cons (λ (t : TableInstance). length t.entry.columns) x (take i xs) in
    omega (arith, here, sum)

same-instances : (S : Schema) (n m : ℕ) (xs ys : List TableInstance) → n ≡ m → map (λ t. t.table) xs ≡ map (λ t. t.table) ys → map (λ t. t.name) xs ≡ map (λ t. t.name) ys
    → AllByRecursion (IsOver S) xs → AllByRecursion (IsOver S) ys → GoOn n xs → GoOn m ys → xs ≡ ys
same-instances S n m [] [] same tables names over also on go = refl
same-instances S n m [] (y ∷ ys) same tables names over also on go = cc tables
same-instances S n m (x ∷ xs) [] same tables names over also on go = cc tables
same-instances S n m (x ∷ xs) (y ∷ ys) same tables names over also on go =
    let table : x.table ≡ y.table = cc in
    let name : x.name ≡ y.name = cc in
    let tables_left : map (λ t. t.table) xs ≡ map (λ t. t.table) ys = cc in
    let names_left : map (λ t. t.name) xs ≡ map (λ t. t.name) ys = cc in
    let here = over.0 in
    let there = also.0 in
    let entries : Some x.entry ≡ Some y.entry = sym here ∙ ap (slice_get S.tables) table ∙ there in
    let entry : x.entry ≡ y.entry = cc in
    let at = on 0 x refl in
    let spot = go 0 y refl in
    let first : x.first_column ≡ y.first_column = omega (arith, at, spot) in
    let next : n + length x.entry.columns ≡ m + length y.entry.columns = ap (λ k. k + length x.entry.columns) same ∙ ap (λ (e : Table). m + length e.columns) entry in
    let others = same-instances S (n + length x.entry.columns) (m + length y.entry.columns) xs ys next tables_left names_left over.1 also.1 (go-on n x xs on) (go-on m y ys go) in
    let one : instance_of x.table x.entry x.name x.first_column ≡ instance_of y.table y.entry y.name y.first_column = cc in
    let all : instance_of x.table x.entry x.name x.first_column ∷ xs ≡ instance_of y.table y.entry y.name y.first_column ∷ ys = cc in
    all

abbrev before_of : ℕ → Before
before_of number = record { tables = []; aggregates = number }

abbrev query_of : List TableInstance → Block → List (List ℕ) → List SortKey → Query
query_of tables block names order = record { tables = tables; block = block; names = names; order = order }

module _ (S : Schema) where
  names-behind : (before ts : List TableName) → map (λ t. t.name) (instances_behind S before ts) ≡ map (λ t. (known_name t).text) ts
  names-behind before [] = refl
  names-behind before (t ∷ ts) = ap (λ ns. (known_name t).text ∷ ns) (names-behind (before ++ t ∷ []) ts)

  -- the table instances of a SELECT without a fault are of tables of the schema
  instances-over : (q : Select) (number : ℕ) → (select_analysis S q).faults [] ≡ [] → AllByRecursion (IsOver S) (instances_behind S [] (select_analysis S q).content.tables)
  instances-over q number none =
      let analysis = select_analysis S q in
      let b : Before = record { tables = []; aggregates = number } in
      let is : select_in S q [] (state S b) ≡ Ok (bound_select S analysis [] b, state S (behind b analysis.content)) = selects-answer S q [] b ∙ ap (λ fs. answer fs (bound_select S analysis [] b, state S (behind b analysis.content))) none in
      (given-ok _ (select_in S q [] (state S b)) _ is (selects_bound S [] 0 q [] (state S b))).grown.over tt

  -- ---- the whole

  fits : (m n : ℕ) → nat_le m n ≡ true → m ≤ n
  fits m n is = grind (arith, nat_tests)

  fitting : (m n : ℕ) → m ≤ n → nat_le m n ≡ true
  fitting m n le = grind (arith, nat_tests)

  module _ (s : Statement) where
    pub binds-query : statement_faults S s ≡ [] → Binds S s (statement_query S s)
    unfolding statement_faults statement_query
    binds-query none =
        let analysis = select_analysis S s.select in
        let first = nil-parts (unless (is_within (of_select S s.select)) TooLarge 0) _ none in
        let next = nil-parts (analysis.faults []) _ first.1 in
        let last = nil-parts (flat_map (order_faults analysis.scope (statement_outputs S s)) s.order) _ next.1 in
        let is_numbered = numbered S s none in
        let listed = ap (λ (l : Listing). length l.aggregates) (selects-listed S s.select [] (start S s.select) next.0) in
        let calls = length-range_with_len (first_aggregate S s) (statement_content S s).aggregates in
        let wide = together-widths S [] (statement_content S s).tables in
        let few = fits (first_aggregate S s + (statement_content S s).aggregates) MAX_COLUMNS (held _ TooLarge 0 last.1) in
        record {
          sizes = held _ TooLarge 0 first.0;
          shown = bound_select S analysis [] (start S s.select);
          select = selects-bind S s.select [] (start S s.select) next.0;
          block = refl;
          names = refl;
          keys = map (the_sort_key analysis.scope (statement_outputs S s)) s.order;
          order_by = each-pairs (BindsOrder S analysis.scope (statement_outputs S s)) (order_faults analysis.scope (statement_outputs S s)) (the_sort_key analysis.scope (statement_outputs S s)) (order-binds S analysis.scope (statement_outputs S s)) s.order last.0;
          order = refl;
          over = instances-over s.select (first_aggregate S s) next.0;
          known = names-behind [] (statement_content S s).tables;
          numbered = is_numbered;
          columns = omega (arith, listed, calls, wide, few);
        }

    module _ (q : Query) (binds : Binds S s q) where
      abbrev from_there : Before
      from_there = record { tables = []; aggregates = columns_together q.tables }

      runs : Runs from_there (block_listing binds.shown.block)
      runs =
          let many = ap length binds.numbered.tables in
          let count = length-map (block_listing q.block).references (λ o. o.table) in
          let tables = length-map q.tables (λ t. t.table) in
          let as_many : length q.tables ≡ length (block_listing q.block).references = omega (arith, many, count, tables) in
          subst (λ x. Runs from_there (block_listing x)) binds.block (binds.numbered.numbers ∙ ap (range_with_len 0) as_many, binds.numbered.aggregates)

      only-query : (statement_faults S s ≡ []) × (q ≡ statement_query S s)
      unfolding statement_faults statement_query
      only-query =
          let analysis = select_analysis S s.select in
          let content = statement_content S s in
          let one = selects-only S [] s.select binds.shown binds.select from_there runs in
          let none = one.0 in
          let there : q.block ≡ analysis.becomes [] from_there = binds.block ∙ ap (λ (r : BoundSelect). r.block) one.1 in
          let listed : block_listing q.block ≡ of_content S from_there content = ap block_listing there ∙ selects-listed S s.select [] from_there none in
          let tables : map (λ t. t.table) q.tables ≡ map (λ t. t.table) (instances_behind S [] content.tables) =
          sym binds.numbered.tables ∙ ap (λ (l : Listing). map (λ o. o.table) l.references) listed ∙ same-tables S [] content.tables in
          let instances : q.tables ≡ instances_behind S [] content.tables =
          same-instances S 0 0 q.tables (instances_behind S [] content.tables) refl tables (binds.known ∙ sym (names-behind [] content.tables)) binds.over (instances-over s.select 0 none)
          (λ i t is. let at = binds.numbered.columns i t is in omega (arith, at)) (λ i t is. let at = first-columns S [] content.tables i t is in omega (arith, at)) in
          let wide : columns_together q.tables ≡ first_aggregate S s = ap columns_together instances ∙ together-widths S [] content.tables in
          let here : from_there ≡ start S s.select = ap before_of wide in
          let shown_is : binds.shown ≡ bound_select S analysis [] (start S s.select) = one.1 ∙ ap (λ b. bound_select S analysis [] b) here in
          let orders = orders-only S binds.shown.scope binds.shown.outputs s.order binds.keys binds.order_by in
          let ordered = subst (λ (r : BoundSelect). (flat_map (order_faults r.scope r.outputs) s.order ≡ []) × (binds.keys ≡ map (the_sort_key r.scope r.outputs) s.order)) shown_is orders in
          let calls = ap (λ (l : Listing). length l.aggregates) listed in
          let count = length-range_with_len (columns_together q.tables) content.aggregates in
          let most = binds.columns in
          let few = fitting (first_aggregate S s + content.aggregates) MAX_COLUMNS (omega (arith, most, wide, calls, count)) in
          let block : q.block ≡ analysis.becomes [] (start S s.select) = binds.block ∙ ap (λ (r : BoundSelect). r.block) shown_is in
          let names : q.names ≡ map (λ o. o.name) (statement_outputs S s) = binds.names ∙ ap (λ (r : BoundSelect). map (λ o. o.name) r.outputs) shown_is in
          let order : q.order ≡ without_repeats (map (the_sort_key analysis.scope (statement_outputs S s)) s.order) = binds.order ∙ ap without_repeats ordered.1 in
          let all : query_of q.tables q.block q.names q.order ≡ statement_query S s = cc in
          (no-faults _ _ (required _ TooLarge 0 binds.sizes) (no-faults _ _ none (no-faults _ _ ordered.0 (required _ TooLarge 0 few))), all)

pub statements_bind : StatementsBind
statements_bind S s q = (
  λ is. let given = (statements_accepted S s q).0 is in subst (Binds S s) (sym given.1) (binds-query S s given.0),
  λ binds. (statements_accepted S s q).1 (only-query S s q binds),
)
