-- A SELECT is bound, if its FROM and its WHERE are.
use Rattle.std.proofs.Common.{◌≡◌, refl, ◌∙◌, subst, ℕ, ◌+◌, ◌≤◌, ◌<◌, Bool, true, ◌&&◌, ◌||◌, Result, nat_lt, List, [], ◌∷◌, ◌++◌, map, length, Option, Some, None, option_map, arith, ap, sym, Ok}
use Rattle.std.specs.List.{list_all}
use Rattle.std.proofs.lemmas.List.{length-map}
use Rattle.std.proofs.lemmas.List.Folds.{list_all-append}
use Rattle.std.proofs.lemmas.Bool.{and_parts, and_from, or_right, lt-ltb, eq-eqb, or_left}
use Rattle.schema.specs.declared.schema.Schema.{Schema}
use Rattle.schema.specs.Each.{each}
use Rattle.sql_parse.specs.declared.statement.Condition.{Condition}
use Rattle.sql_parse.specs.declared.statement.SelectList.{SelectList}
use Rattle.sql_parse.specs.declared.statement.Select.{Select, out-Select}
use Rattle.sql_parse.specs.declared.statement.HavingCondition.{HavingCondition}
use Rattle.query.specs.declared.query.TableInstance.{TableInstance}
use Rattle.query.specs.declared.query.Cond.{Cond}
use Rattle.query.specs.declared.query.Item.{Item}
use Rattle.binder.specs.declared.tables.Numbered.{Numbered}
use Rattle.binder.specs.declared.output.Output.{Output}
use Rattle.binder.specs.Scopes.{Scopes}
use Rattle.binder.specs.Numbers.{with_aggregates}
use Rattle.binder.specs.Outputs.{aggregates, is_grouped, key_in, outputs_in}
use Rattle.binder.specs.Selects.{FromSoFar, condition_in, chain_in, select_in, from_in, filter_in, block_of, nothing_asked, with_asked}
use Rattle.binder.specs.Extents.{of_condition, of_chain, of_filter}
use Rattle.query.specs.Bound as numbers
use Rattle.query.specs.Bound.{CondScope, cond_scope, from_scope, block_scope, bound_filter, aggregate_numbers, none_among, are_new, bound_group_item, item_number}
use Rattle.sql_parse.specs.PlainOns.{plainness, filter_ons}
use Rattle.binder.proofs.SelectParts.{select_at}
use Rattle.binder.proofs.ExtentParts.{extent-select}
use Rattle.sql_parse.proofs.PlainParts.{ons-select}
use Rattle.query.proofs.ScopeEquations.{scope-Block}
use Rattle.binder.proofs.Given.{Given, and-then, given-from, given-at, given-ok}
use Rattle.binder.proofs.Rising.{Rising, AreBelow, rising-bounds, rising-below, apart, none-among, none-among-append, rising-append, rising-to}
use Rattle.binder.proofs.Growth.{Grown, Within, grown-none, grown-more, rising-off, within-first, within-next}
use Rattle.binder.proofs.NamesThere.{Around, around-more}
use Rattle.binder.proofs.BoundParts.{FromIs, SelectIs, SelectBound}
use Rattle.binder.proofs.BoundConditions.{ProvedCondition, columns-all}
use Rattle.binder.proofs.BoundFroms.{ProvedChain, chains_of, from-bound}
use Rattle.binder.proofs.BoundItems.{items-by, OutputsAre, keys-bound, outputs-are, item_bound, numbers-append, AskedAre, having-are}
use Rattle.binder.proofs.Havings.{calls, having-answer}
use Rattle.binder.proofs.HavingShapes.{placed-bound}
use Rattle.binder.proofs.PartAnswers.{answer}
use Rattle.binder.specs.declared.having.Asked.{Asked}
use Rattle.binder.specs.declared.fault.BindRefusal.{BindRefusal}
use Rattle.binder.specs.Havings.{having_asked}
use Rattle.binder.specs.HavingShapes.{having_becomes, having_values}
use Rattle.binder.specs.Analyses.{having_faults}
use Rattle.binder.specs.Parts.{the_asked}

-- ---- column numbers of a block

new-among : (b : ℕ) (scopes : Scopes) (rows : numbers.Scope) (xs : List ℕ) → Around b scopes rows → ((row : List ℕ) → AreBelow b row → none_among xs row ≡ true) → list_all (none_among xs) rows ≡ true
new-among b [] [] xs fits none = refl
new-among b [] (row ∷ rows) xs fits none = absurd fits
new-among b (scope ∷ outer) [] xs fits none = refl
new-among b (scope ∷ outer) (row ∷ rows) xs fits none = and_from _ _ (none row fits.1) (new-among b outer rows xs fits.2 none)

-- the numbers of a block's aggregates and columns are new behind the rows around
numbers-new : (a b c d : ℕ) (scopes : Scopes) (rows : numbers.Scope) (xs ys : List ℕ) → Around a scopes rows → Rising a b ys → Rising c d xs → b ≤ c → are_new (xs ++ ys) rows ≡ true
numbers-new a b c d scopes rows xs ys fits columns others le =
    let bounds = rising-bounds a b ys columns in
    and_from _ _ (apart a b c d xs ys others columns le)
    (new-among a scopes rows (xs ++ ys) fits (λ row below. none-among-append xs ys row (none-among c d a xs row others below (omega (arith, bounds, le))) (none-among a b a ys row columns below (omega arith))))

abbrev ok : {A : Type 0} → A → Result A BindRefusal
ok x = Ok x

ok-same : {A : Type 0} (x y : A) → ok x ≡ ok y → x ≡ y
ok-same x y is = cc is

module _ (S : Schema) (instances : List TableInstance) (T : ℕ) where
  -- ---- WHERE

  pub record FilterIs (more : ℕ) (ons : Bool) (scopes : Scopes) (n : Numbered) (o : Option CondScope) (m : Numbered) : Type 0 where
    pub grown : Grown S n m more
    pub bound : ons ≡ true → Within instances T n m → (rows : numbers.Scope) → Around n.next_column scopes rows → bound_filter o rows ≡ true

  abbrev pub filter_of : Option (ProvedCondition S instances T) → Option Condition
  filter_of None = None
  filter_of (Some c) = Some c.0

  abbrev FilterGiven : Option Condition → Scopes → Numbered → Option Cond × Numbered → Type 0
  FilterGiven o scopes n r = FilterIs (of_filter (option_map (of_condition S) o)).columns (filter_ons (option_map plainness o)) scopes n (option_map (cond_scope instances) r.0) r.1

  filter-bound : (w : Option (ProvedCondition S instances T)) (scopes : Scopes) (n : Numbered) → Given (FilterGiven (filter_of w) scopes n) (filter_in (option_map (condition_in S) (filter_of w)) scopes n)
  filter-bound None scopes n = record { grown = grown-none S n; bound = λ ons within rows fits. refl }
  filter-bound (Some c) scopes n = and-then _ (FilterGiven (Some c.0) scopes n) (condition_in S c.0 scopes n) _ (c.1 scopes n) (λ r is. record { grown = is.grown; bound = is.bound })

  -- ---- the block

  grown-aggregates : (n : Numbered) (a : ℕ) → Grown S n (with_aggregates n a) 0
  grown-aggregates n a =
      let none = grown-none S n in
      record { tables = none.tables; over = none.over; low = none.low; columns = none.columns; aggregates = omega arith }

  grouped-if : (keys : List ℕ) (l : SelectList) (having : Option HavingCondition) → 0 < aggregates l → is_grouped keys l having ≡ true
  grouped-if keys l having lt = or_left _ _ (or_right _ _ (lt-ltb 0 (aggregates l) lt))

  -- ---- HAVING

  grown-asked : (n : Numbered) (x : Asked) → n.next_aggregate ≤ x.next_aggregate → Grown S n (with_asked n x) 0
  grown-asked n x low =
      let none = grown-none S n in
      record { tables = none.tables; over = none.over; low = none.low; columns = none.columns; aggregates = low }

  -- its aggregates have the next numbers
  asked-low : (scopes : Scopes) (keys : List ℕ) (having : Option HavingCondition) (number : ℕ) (x : Asked) → having_asked scopes keys having (record { items = []; next_aggregate = number }) ≡ Ok x → number ≤ x.next_aggregate
  asked-low scopes keys having number x is = by (having_faults scopes keys having) (sym (having-answer scopes keys having number) ∙ is)
    where
      by : (fs : List BindRefusal) → answer fs (record { items = the_asked scopes number (having_values having); next_aggregate = number + calls (having_values having) }) ≡ Ok x → number ≤ x.next_aggregate
      by [] e = let same : number + calls (having_values having) ≡ x.next_aggregate = ap (λ (y : Asked). y.next_aggregate) (ok-same _ x e) in omega (arith, same)
      by (r ∷ fs) e = cc e

  -- a block with a HAVING is grouped, and without one it names nothing
  asked-bound : (keys : List ℕ) (l : SelectList) (having : Option HavingCondition) (width : ℕ) (rows : numbers.Scope) (more : List Item) → length more ≡ length (having_values having) → list_all (bound_group_item width keys rows) more ≡ true
      → list_all (item_bound (is_grouped keys l having) width keys rows) more ≡ true
  asked-bound keys l None width rows [] none all = refl
  asked-bound keys l None width rows (i ∷ more) none all = absurd (omega (arith, none))
  asked-bound keys l (Some h) width rows more count all = rw (or_right (nat_lt 0 (length keys) || nat_lt 0 (aggregates l)) true refl) all

  having-bound : (having : Option HavingCondition) (row : List ℕ) → length row ≡ length (having_values having) → bound_filter (option_map (cond_scope instances) (having_becomes having)) (row ∷ []) ≡ true
  having-bound None row count = refl
  having-bound (Some h) row count = placed-bound instances row h 0 (omega (arith, count))

  module _ (outer : Scopes) (n : Numbered) (distinct : Bool) (l : SelectList) (having : Option HavingCondition) (sources : FromSoFar) (filter : Option Cond × Numbered) (keys : List ℕ) (asked : Asked) (outputs : List Output) where
    abbrev KeysAre : Type 0
    KeysAre = (b : ℕ) (row : List ℕ) (rows : numbers.Scope) → Around b (sources.1 ∷ outer) (row ∷ rows) → list_all (λ k. nat_lt k (length row)) keys ≡ true

    abbrev HavingIs : Type 0
    HavingIs = (filter.1.next_aggregate ≤ asked.next_aggregate)
        × ((b : ℕ) (row : List ℕ) (rows : numbers.Scope) (fits : Around b (sources.1 ∷ outer) (row ∷ rows)) → AskedAre b sources.1 outer row rows fits keys (nothing_asked filter.1) (length (having_values having)) asked)

    abbrev ShownAre : Type 0
    ShownAre = (b : ℕ) (row : List ℕ) (rows : numbers.Scope) (fits : Around b (sources.1 ∷ outer) (row ∷ rows)) → OutputsAre b sources.1 outer row rows fits (is_grouped keys l having) keys n.next_aggregate (aggregates l) outputs

    select-is : (x y : ℕ) (ons others : Bool) → FromIs S instances T x ons outer (with_aggregates n (aggregates l)) (from_scope instances sources.0) sources.1 sources.2
        → FilterIs y others (sources.1 ∷ outer) sources.2 (option_map (cond_scope instances) filter.0) filter.1 → KeysAre → HavingIs → ShownAre
        → SelectIs S instances T (x + y) (ons && others) outer n (block_scope instances (block_of distinct sources.0 filter.0 (is_grouped keys l having) keys having asked.items outputs)) outputs (with_asked filter.1 asked)
    select-is x y ons others from where_ keyed named shown =
        let k : Numbered = with_aggregates n (aggregates l) in
        let w : Numbered = filter.1 in
        let m : Numbered = with_asked w asked in
        let items : List Item = map (λ o. o.item) outputs in
        let own : List ℕ = (from_scope instances sources.0).numbers in
        let before : Grown S n k 0 = grown-aggregates n (aggregates l) in
        let ending : Grown S w m 0 = grown-asked w asked named.0 in
        let behind_from : Grown S sources.2 m y = grown-more S sources.2 w m y 0 y where_.grown ending (omega arith) in
        let after : Grown S k m (x + y) = grown-more S k sources.2 m x y (x + y) from.grown behind_from refl in
        let of_all : Within instances T n m → Within instances T k m = λ within. within-next S instances T n k m 0 (x + y) before within in
        let of_from : Within instances T n m → Within instances T k sources.2 = λ within. within-first S instances T k sources.2 m x y behind_from (of_all within) in
        let of_filter : Within instances T n m → Within instances T sources.2 w = λ within. within-first S instances T sources.2 w m y 0 ending (within-next S instances T k sources.2 m x y from.grown (of_all within)) in
        rw (scope-Block instances (block_of distinct sources.0 filter.0 (is_grouped keys l having) keys having asked.items outputs)) (record {
          grown = grown-more S n k m 0 (x + y) (x + y) before after (omega arith);
          single = λ one. eq-eqb _ _ (length-map outputs (λ o. o.item) ∙ one);
          bound = λ h within rows fits.
              let tests = and_parts ons others h in
              let more = from.grown.columns in
              let rises = from.rises (of_from within) in
              let inner : Around sources.2.next_column (sources.1 ∷ outer) (own ∷ rows)
              = (from.wide (of_from within), rising-below n.next_column sources.2.next_column own rises, around-more n.next_column sources.2.next_column outer rows (omega (arith, more)) fits) in
              let shows = shown sources.2.next_column own rows inner in
              let asks : AskedAre sources.2.next_column sources.1 outer own rows inner keys (nothing_asked w) (length (having_values having)) asked = named.1 sources.2.next_column own rows inner in
              let last = (of_from within).columns in
              let first = within.aggregates in
              let passed = from.grown.aggregates in
              let tested = where_.grown.aggregates in
              let numbered : Rising n.next_aggregate asked.next_aggregate (aggregate_numbers (items ++ asked.items)) =
              rw (asks.items, numbers-append items asks.more) (rising-append n.next_aggregate w.next_aggregate asked.next_aggregate (aggregate_numbers items) (aggregate_numbers asks.more)
              (rising-to n.next_aggregate (n.next_aggregate + aggregates l) w.next_aggregate (aggregate_numbers items) (omega (arith, passed, tested)) shows.1) asks.rises) in
              let all : list_all (item_bound (is_grouped keys l having) (length own) keys (own ∷ rows)) (items ++ asked.items) ≡ true =
              rw asks.items (list_all-append (item_bound (is_grouped keys l having) (length own) keys (own ∷ rows)) items asks.more ∙ and_from _ _ shows.0 (asked-bound keys l having (length own) (own ∷ rows) asks.more asks.counts asks.bound)) in
              let counted : length (map (item_number (own ∷ rows)) asked.items) ≡ length (having_values having) = length-map asked.items (item_number (own ∷ rows)) ∙ ap (λ (is : List Item). length is) asks.items ∙ asks.counts in
              and_from _ _ (numbers-new n.next_column sources.2.next_column n.next_aggregate _ outer rows (aggregate_numbers (items ++ asked.items)) own fits rises numbered (omega (arith, last, first)))
              (and_from _ _ (rising-off T n.next_aggregate _ instances (aggregate_numbers (items ++ asked.items)) numbered first within.low)
              (and_from _ _ (from.bound tests.0 (of_from within) rows fits)
              (and_from _ _ (where_.bound tests.1 (of_filter within) (own ∷ rows) inner)
              (and_from _ _ (items-by (is_grouped keys l having) (length own) keys (items ++ asked.items) (own ∷ rows) (keyed sources.2.next_column own rows inner) all)
              (having-bound having (map (item_number (own ∷ rows)) asked.items) counted)))));
        })

  -- ---- SELECT

  pub bound-select : (q : Select) (cs : List (ProvedChain S instances T)) (w : Option (ProvedCondition S instances T)) → chains_of S instances T cs ≡ (out-Select q).from → filter_of w ≡ (out-Select q).filter → SelectBound S instances T q
  bound-select q cs w from_is filter_is outer n =
      let x = out-Select q in
      let k : Numbered = with_aggregates n (aggregates x.list) in
      given-at _ (select_in S q outer n) _ (select_at S q outer n k (chains_of S instances T cs) x.group refl from_is refl)
      (and-then _ _ (from_in (map (chain_in S) (chains_of S instances T cs)) outer k) _ (from-bound S instances T cs outer k) (λ sources from.
      and-then (FilterGiven x.filter (sources.1 ∷ outer) sources.2) _ (filter_in (option_map (condition_in S) x.filter) (sources.1 ∷ outer) sources.2) _
      (subst (λ o. Given (FilterGiven o (sources.1 ∷ outer) sources.2) (filter_in (option_map (condition_in S) o) (sources.1 ∷ outer) sources.2)) filter_is (filter-bound w (sources.1 ∷ outer) sources.2)) (λ filter where_.
      and-then (λ keys. (b : ℕ) (row : List ℕ) (rows : numbers.Scope) → Around b (sources.1 ∷ outer) (row ∷ rows) → list_all (λ k. nat_lt k (length row)) keys ≡ true) _ (each (key_in (sources.1 ∷ outer)) x.group) _
      (given-from _ (each (key_in (sources.1 ∷ outer)) x.group) (λ keys is b row rows fits.
      given-ok (λ keys. list_all (λ k. nat_lt k (length row)) keys ≡ true) (each (key_in (sources.1 ∷ outer)) x.group) keys is (keys-bound b sources.1 outer row rows fits x.group)))
      (λ keys keyed.
      and-then (λ asked. HavingIs outer n x.distinct x.list x.having sources filter keys asked []) _ (having_asked (sources.1 ∷ outer) keys x.having (nothing_asked filter.1)) _
      (given-from _ (having_asked (sources.1 ∷ outer) keys x.having (nothing_asked filter.1)) (λ asked is. (
        asked-low (sources.1 ∷ outer) keys x.having filter.1.next_aggregate asked is,
        λ b row rows fits. given-ok (AskedAre b sources.1 outer row rows fits keys (nothing_asked filter.1) (length (having_values x.having))) (having_asked (sources.1 ∷ outer) keys x.having (nothing_asked filter.1)) asked is
            (having-are b sources.1 outer row rows fits keys x.having (nothing_asked filter.1)),
      )))
      (λ asked named.
      and-then (ShownAre outer n x.distinct x.list x.having sources filter keys asked) _ (outputs_in sources.1 (sources.1 ∷ outer) (is_grouped keys x.list x.having) keys n.next_aggregate x.list) _
      (given-from _ (outputs_in sources.1 (sources.1 ∷ outer) (is_grouped keys x.list x.having) keys n.next_aggregate x.list) (λ outputs is b row rows fits.
      given-ok (OutputsAre b sources.1 outer row rows fits (is_grouped keys x.list x.having) keys n.next_aggregate (aggregates x.list)) (outputs_in sources.1 (sources.1 ∷ outer) (is_grouped keys x.list x.having) keys n.next_aggregate x.list) outputs is
      (outputs-are b sources.1 outer row rows fits (is_grouped keys x.list x.having) keys n.next_aggregate x.list (grouped-if keys x.list x.having))))
      (λ outputs shown.
      rw (extent-select S q, ons-select q, columns-all (map (of_chain S) x.from), ← from_is)
      (select-is outer n x.distinct x.list x.having sources filter keys asked outputs _ _ _ _ from where_ keyed named shown)))))))
