-- What a SELECT shows is there: columns of the FROMs around, in a grouped one keys, and aggregates of own columns, which have
-- numbers one after the other.
use Rattle.std.proofs.Common.{◌≡◌, refl, ℕ, ◌+◌, ◌≤◌, ◌<◌, Bool, true, false, not, ◌||◌, ◌==◌, if◌then◌else◌, nat_lt, List, [], ◌∷◌, map, filter, length, Option, Some, None, arith, ◌++◌, flat_map, append_assoc, append-nil, length-append, ap, sym, ◌∙◌}
use Rattle.std.specs.List.{AllByRecursion, list_all}
use Rattle.std.proofs.lemmas.Bool.{and_parts, and_from, lt-ltb, eqb-true, cond-true}
use Rattle.values.proofs.Lists.{all_append}
use Rattle.schema.specs.declared.schema.Kind.{Kind}
use Rattle.schema.specs.declared.schema.Kind.TheVariants as kind
use Rattle.schema.specs.declared.schema.Column as entries
use Rattle.schema.specs.Each.{each}
use Rattle.sql_parse.specs.declared.statement.ColumnName.{ColumnName}
use Rattle.sql_parse.specs.declared.statement.AggregateFunction.{AggregateFunction}
use Rattle.sql_parse.specs.declared.statement.AggregateFunction.TheVariants as function
use Rattle.sql_parse.specs.declared.statement.ItemValue.{ItemValue}
use Rattle.sql_parse.specs.declared.statement.ItemValue.TheVariants as text
use Rattle.sql_parse.specs.declared.statement.SelectItem.{SelectItem}
use Rattle.sql_parse.specs.declared.statement.SelectList.{SelectList}
use Rattle.sql_parse.specs.declared.statement.SelectList.TheVariants as list
use Rattle.sql_parse.specs.declared.statement.HavingCondition.{HavingCondition}
use Rattle.sql_parse.specs.declared.statement.HavingTerm.{HavingTerm}
use Rattle.sql_parse.specs.declared.statement.HavingTerm.TheVariants as asked
use Rattle.query.specs.declared.query.Column.{Column}
use Rattle.query.specs.declared.query.Aggregate.{Aggregate}
use Rattle.query.specs.declared.query.Item.{Item}
use Rattle.query.specs.declared.query.Item.TheVariants as item
use Rattle.binder.specs.declared.scope.TypedColumn.{TypedColumn}
use Rattle.binder.specs.declared.output.Output.{Output}
use Rattle.binder.specs.declared.fault.BindReason.TheVariants.{UngroupedColumn, OuterAggregate, MixedKinds}
use Rattle.binder.specs.Lookups.{own, refusal}
use Rattle.binder.specs.Scopes.{Scope, Scopes, meant, place_in_text}
use Rattle.binder.specs.Outputs.{is_call, is_aggregate, aggregates, key_in, shows, sum_of, aggregate_of, aggregate_in, item_in, output_in, items_in, columns_from, all_columns, is_shown, outputs_in}
use Rattle.binder.specs.Lent.{width}
use Rattle.query.specs.Bound as numbers
use Rattle.query.specs.Bound.{names, bound_aggregate, bound_item, bound_group_item, bound_items, aggregate_numbers, is_among}
use Rattle.binder.proofs.Given.{Given, and-then, given-if, weaker}
use Rattle.binder.proofs.Rising.{Rising, rising-append}
use Rattle.binder.proofs.NamesThere.{Around, IsNamed, meant-there}
use Rattle.binder.proofs.HavingEquations.{each-having, shape-Compare, shape-IsNull, shape-Not, shape-And, shape-Or, asked-Compare, asked-IsNull, asked-Not, asked-And, asked-Or}
use Rattle.binder.specs.declared.having.Asked.{Asked}
use Rattle.binder.specs.Havings.{is_key, with_column, with_aggregate, term_asked, all_asked, condition_asked, having_asked}
use Rattle.binder.specs.HavingShapes.{named, having_shape, having_values}
use Rattle.binder.specs.Kinds.{are_comparable}
use Rattle.std.proofs.lemmas.List.Folds.{list_all-append}

-- an item of a block that is grouped or not
abbrev pub item_bound : Bool → ℕ → List ℕ → numbers.Scope → Item → Bool
item_bound false width keys rows i = bound_item rows i
item_bound true width keys rows i = bound_group_item width keys rows i

pub items-by : (grouped : Bool) (width : ℕ) (keys : List ℕ) (items : List Item) (rows : numbers.Scope) → list_all (λ k. nat_lt k width) keys ≡ true → list_all (item_bound grouped width keys rows) items ≡ true
    → bound_items grouped width keys items rows ≡ true
items-by false width keys items rows below all = all
items-by true width keys items rows below all = and_from _ _ below all

-- a column that may be shown
column-bound : (grouped : Bool) (width : ℕ) (keys : List ℕ) (rows : numbers.Scope) (c : Column) → names rows c ≡ true → shows grouped keys c ≡ true → item_bound grouped width keys rows (item.Column c) ≡ true
column-bound false width keys rows c named shown = named
column-bound true width keys rows c named shown = by (c.level == 0) shown
  where
    by : (b : Bool) → (not true || not b || is_among c.place keys) ≡ true → (if b then is_among c.place keys else names rows c) ≡ true
    by true h = h
    by false h = named

-- the item has this number if it is an aggregate
abbrev pub Takes : ℕ → Bool → Item → Type 0
Takes number true (item.Column c) = ⊥
Takes number true (item.Aggregate n a) = n ≡ number
Takes number false (item.Column c) = Unit {0}
Takes number false (item.Aggregate n a) = ⊥

pub numbers-append : (xs ys : List Item) → aggregate_numbers (xs ++ ys) ≡ aggregate_numbers xs ++ aggregate_numbers ys
numbers-append [] ys = refl
numbers-append (item.Column c ∷ xs) ys = numbers-append xs ys
numbers-append (item.Aggregate n a ∷ xs) ys = ap (λ ns. n ∷ ns) (numbers-append xs ys)

module _ (b : ℕ) (scope : Scope) (outer : Scopes) (row : List ℕ) (rows : numbers.Scope) (fits : Around b (scope ∷ outer) (row ∷ rows)) where
  -- a name of the own FROM is one of its columns
  own-below : (c : Column) → names (row ∷ rows) c ≡ true → (c.level == 0) ≡ true → nat_lt c.place (length row) ≡ true
  own-below c named is = rw (eqb-true c.level 0 is) at named

  -- ---- GROUP BY

  key-bound : (c : ColumnName) → Given (λ k. nat_lt k (length row) ≡ true) (key_in (scope ∷ outer) c)
  key-bound c =
      and-then (IsNamed (row ∷ rows)) _ (meant c (scope ∷ outer)) _ (meant-there c b (scope ∷ outer) (row ∷ rows) fits) (λ found named.
      given-if _ (refusal UngroupedColumn (place_in_text c)) (found.column.level == 0) found.column.place (own-below found.column named))

  pub keys-bound : (group : List ColumnName) → Given (λ keys. list_all (λ k. nat_lt k (length row)) keys ≡ true) (each (key_in (scope ∷ outer)) group)
  unfolding each
  keys-bound [] = refl
  keys-bound (c ∷ group) =
      and-then _ _ (key_in (scope ∷ outer) c) _ (key-bound c) (λ k below.
      and-then _ _ (each (key_in (scope ∷ outer)) group) _ (keys-bound group) (λ keys all. and_from _ _ below all))

  -- ---- aggregates

  sum-bound : (at place : ℕ) (k : Kind) → nat_lt place (length row) ≡ true → Given (λ a. bound_aggregate (length row) a.0 ≡ true) (sum_of at place k)
  sum-bound at place kind.Int below = below
  sum-bound at place kind.Text below = tt

  function-bound : (f : AggregateFunction) (at : ℕ) (c : TypedColumn) → nat_lt c.column.place (length row) ≡ true → Given (λ a. bound_aggregate (length row) a.0 ≡ true) (aggregate_of f at c)
  function-bound function.Count at c below = below
  function-bound function.Sum at c below = sum-bound at c.column.place c.kind below
  function-bound function.Min at c below = below
  function-bound function.Max at c below = below

  aggregate-bound : (f : AggregateFunction) (at : ℕ) (o : Option ColumnName) → Given (λ a. bound_aggregate (length row) a.0 ≡ true) (aggregate_in (scope ∷ outer) f at o)
  aggregate-bound f at None = refl
  aggregate-bound f at (Some c) =
      and-then (IsNamed (row ∷ rows)) _ (meant c (scope ∷ outer)) _ (meant-there c b (scope ∷ outer) (row ∷ rows) fits) (λ found named.
      and-then (λ c. nat_lt c.column.place (length row) ≡ true) _ (Rattle.values.specs.Faults.wanted_if (refusal OuterAggregate at) (found.column.level == 0) found) _
      (given-if (λ c. nat_lt c.column.place (length row) ≡ true) (refusal OuterAggregate at) (found.column.level == 0) found (own-below found.column named))
      (λ own below. function-bound f at own below))

  -- ---- items

  module _ (grouped : Bool) (keys : List ℕ) where
    abbrev IsItem : ℕ → Bool → Item → Type 0
    IsItem number call i = (item_bound grouped (length row) keys (row ∷ rows) i ≡ true) × Takes number call i

    of_group : (number : ℕ) (a : Aggregate) → grouped ≡ true → bound_aggregate (length row) a ≡ true → item_bound grouped (length row) keys (row ∷ rows) (item.Aggregate number a) ≡ true
    of_group number a is below = rw is below

    item-is : (number : ℕ) (v : ItemValue) → (is_call v ≡ true → grouped ≡ true) → Given (λ r. IsItem number (is_call v) r.0) (item_in (scope ∷ outer) grouped keys number v)
    item-is number (text.Column c) allowed =
        and-then (IsNamed (row ∷ rows)) _ (meant c (scope ∷ outer)) _ (meant-there c b (scope ∷ outer) (row ∷ rows) fits) (λ found named.
        given-if (λ r. IsItem number false r.0) (refusal UngroupedColumn (place_in_text c)) (shows grouped keys found.column) (item.Column found.column, found.kind)
        (λ shown. (column-bound grouped (length row) keys (row ∷ rows) found.column named shown, tt)))
    item-is number (text.Aggregate call) allowed =
        and-then (λ a. bound_aggregate (length row) a.0 ≡ true) _ (aggregate_in (scope ∷ outer) call.function call.at call.column) _ (aggregate-bound call.function call.at call.column)
        (λ a below. (of_group number a.0 (allowed refl) below, refl))

    -- outputs, of which so many are aggregates, numbered from here on
    abbrev pub OutputsAre : ℕ → ℕ → List Output → Type 0
    OutputsAre number count outputs =
        (list_all (item_bound grouped (length row) keys (row ∷ rows)) (map (λ o. o.item) outputs) ≡ true) × Rising number (number + count) (aggregate_numbers (map (λ o. o.item) outputs))

    numbers-more : (number : ℕ) (call : Bool) (i : Item) (items : List Item) (s : SelectItem) (others : List SelectItem) → Takes number call i
        → Rising (if call then number + 1 else number) ((if call then number + 1 else number) + length others) (aggregate_numbers items)
        → Rising number (number + length (if call then s ∷ others else others)) (aggregate_numbers (i ∷ items))
    numbers-more number true (item.Column c) items s others takes rises = absurd takes
    numbers-more number true (item.Aggregate n a) items s others takes rises =
        let end : (number + 1) + length others ≡ number + length (s ∷ others) = omega arith in
        rw takes (omega arith, rw (← end) rises)
    numbers-more number false (item.Column c) items s others takes rises = rises
    numbers-more number false (item.Aggregate n a) items s others takes rises = absurd takes

    items-are : (items : List SelectItem) (number : ℕ) → AllByRecursion (λ i. is_aggregate i ≡ true → grouped ≡ true) items → Given (OutputsAre number (length (filter is_aggregate items))) (items_in (scope ∷ outer) grouped keys number items)
    unfolding items_in
    items-are [] number allowed = (refl, omega arith)
    items-are (i ∷ items) number allowed =
        and-then (λ o. IsItem number (is_aggregate i) o.item) (OutputsAre number (length (filter is_aggregate (i ∷ items)))) (output_in (scope ∷ outer) grouped keys number i) _
        (and-then (λ r. IsItem number (is_aggregate i) r.0) (λ o. IsItem number (is_aggregate i) o.item) (item_in (scope ∷ outer) grouped keys number i.value) _ (item-is number i.value allowed.0) (λ found is. is))
        (λ first is.
        and-then (OutputsAre (if is_aggregate i then number + 1 else number) (length (filter is_aggregate items))) (OutputsAre number (length (filter is_aggregate (i ∷ items)))) (items_in (scope ∷ outer) grouped keys (if is_aggregate i then number + 1 else number) items) _
        (items-are items (if is_aggregate i then number + 1 else number) allowed.1)
        (λ others are. (and_from _ _ is.0 are.0, numbers-more number (is_aggregate i) first.item (map (λ o. o.item) others) i (filter is_aggregate items) is.1 are.1)))

    allowed-from : (items : List SelectItem) → (0 < length (filter is_aggregate items) → grouped ≡ true) → AllByRecursion (λ i. is_aggregate i ≡ true → grouped ≡ true) items
    allowed-from [] allowed = tt
    allowed-from (i ∷ items) allowed = by (is_aggregate i) allowed (allowed-from items)
      where
        by : (call : Bool) → (0 < length (if call then i ∷ filter is_aggregate items else filter is_aggregate items) → grouped ≡ true)
            → ((0 < length (filter is_aggregate items) → grouped ≡ true) → AllByRecursion (λ i. is_aggregate i ≡ true → grouped ≡ true) items)
            → (call ≡ true → grouped ≡ true) × AllByRecursion (λ i. is_aggregate i ≡ true → grouped ≡ true) items
        by true h more = let is = h (omega arith) in ((λ e. is), more (λ lt. is))
        by false h more = ((λ e. cc e), more h)

    -- ---- `*`

    -- a column of the own FROM
    abbrev IsOwn : Output → Type 0
    IsOwn o = (place : ℕ) × (o.item ≡ item.Column (own place)) × (place < length row)

    columns-own : (n : ℕ) (cs : List entries.Column) → n + length cs ≤ length row → AllByRecursion IsOwn (columns_from n cs)
    columns-own n [] le = tt
    columns-own n (c ∷ cs) le = ((n, refl, omega (arith, le)), columns-own (n + 1) cs (omega (arith, le)))

    all-own : (n : ℕ) (s : Scope) → n + width s ≤ length row → AllByRecursion IsOwn (all_columns n s)
    all-own n [] le = tt
    all-own n (o ∷ s) le = all_append IsOwn (columns_from n o.entry.columns) (all_columns (n + length o.entry.columns) s) (columns-own n o.entry.columns (omega (arith, le))) (all-own (n + length o.entry.columns) s (omega (arith, le)))

    own-bound : (place : ℕ) → place < length row → is_shown grouped keys (item.Column (own place)) ≡ true → item_bound grouped (length row) keys (row ∷ rows) (item.Column (own place)) ≡ true
    own-bound place lt shown = column-bound grouped (length row) keys (row ∷ rows) (own place) (lt-ltb place (length row) lt) shown

    own-all : (number : ℕ) (outputs : List Output) → AllByRecursion IsOwn outputs → list_all (λ o. is_shown grouped keys o.item) outputs ≡ true → OutputsAre number 0 outputs
    own-all number [] all shown = (refl, omega arith)
    own-all number (o ∷ outputs) all shown =
        let (place, is, lt) = all.0 in
        let tests = and_parts (is_shown grouped keys o.item) _ shown in
        let shown_one : is_shown grouped keys (item.Column (own place)) ≡ true = rw is at tests.0 in
        let more = own-all number outputs all.1 tests.1 in
        rw is (and_from _ _ (own-bound place lt shown_one) more.0, more.1)

  -- ---- HAVING

  module _ (keys : List ℕ) where
    -- so many more are named, each bound, and their aggregates are numbered on
    pub record AskedAre (x : Asked) (count : ℕ) (y : Asked) : Type 0 where
      pub more : List Item
      pub items : y.items ≡ x.items ++ more
      pub bound : list_all (bound_group_item (length row) keys (row ∷ rows)) more ≡ true
      pub rises : Rising x.next_aggregate y.next_aggregate (aggregate_numbers more)
      pub counts : length more ≡ count

    none-asked : (x : Asked) → AskedAre x 0 x
    none-asked x = record { more = []; items = sym (append-nil x.items); bound = refl; rises = omega arith; counts = refl }

    asked-then : (x y z : Asked) (m n : ℕ) → AskedAre x m y → AskedAre y n z → AskedAre x (m + n) z
    asked-then x y z m n first next = record {
      more = first.more ++ next.more;
      items = next.items ∙ ap (λ items. items ++ next.more) first.items ∙ append_assoc x.items first.more next.more;
      bound = list_all-append (bound_group_item (length row) keys (row ∷ rows)) first.more next.more ∙ and_from _ _ first.bound next.bound;
      rises = rw (numbers-append first.more next.more) (rising-append x.next_aggregate y.next_aggregate z.next_aggregate (aggregate_numbers first.more) (aggregate_numbers next.more) first.rises next.rises);
      counts = length-append first.more next.more ∙ ap (λ k. k + length next.more) first.counts ∙ ap (λ k. m + k) next.counts;
    }

    key-bound-item : (c : Column) → is_key keys c ≡ true → bound_group_item (length row) keys (row ∷ rows) (item.Column c) ≡ true
    key-bound-item c key = let parts = and_parts (c.level == 0) _ key in cond-true _ _ _ parts.0 ∙ parts.1

    column-asked-is : (x : Asked) (c : Column) → is_key keys c ≡ true → AskedAre x 1 (with_column x c)
    column-asked-is x c key = record { more = item.Column c ∷ []; items = refl; bound = and_from _ _ (key-bound-item c key) refl; rises = omega arith; counts = refl }

    aggregate-asked-is : (x : Asked) (a : Aggregate) → bound_aggregate (length row) a ≡ true → AskedAre x 1 (with_aggregate x a)
    aggregate-asked-is x a below = record { more = item.Aggregate x.next_aggregate a ∷ []; items = refl; bound = and_from _ _ below refl; rises = (omega arith, omega arith); counts = refl }

    term-are : (a : HavingTerm) (x : Asked) → Given (λ r. AskedAre x (length (named a)) r.1) (term_asked (scope ∷ outer) keys a x)
    term-are (asked.Column c) x =
        and-then (IsNamed (row ∷ rows)) _ (meant c (scope ∷ outer)) _ (meant-there c b (scope ∷ outer) (row ∷ rows) fits) (λ found there.
        given-if (λ r. AskedAre x 1 r.1) (refusal UngroupedColumn (place_in_text c)) (is_key keys found.column) (Some found.kind, with_column x found.column) (column-asked-is x found.column))
    term-are (asked.Aggregate call) x =
        and-then (λ a. bound_aggregate (length row) a.0 ≡ true) _ (aggregate_in (scope ∷ outer) call.function call.at call.column) _ (aggregate-bound call.function call.at call.column)
        (λ a below. aggregate-asked-is x a.0 below)
    term-are (asked.Literal v) x = none-asked x

    abbrev ConditionAre : HavingCondition → Type 0
    ConditionAre c = (x : Asked) → Given (AskedAre x (length (having_shape c).values)) (condition_asked (scope ∷ outer) keys c x)

    abbrev values_of : List HavingCondition → List ItemValue
    values_of cs = flat_map (λ c. c.values) (map having_shape cs)

    all-are : (cs : List HavingCondition) → AllByRecursion ConditionAre cs → (x : Asked) → Given (AskedAre x (length (values_of cs))) (all_asked (map (condition_asked (scope ∷ outer) keys) cs) x)
    all-are [] each x = none-asked x
    all-are (c ∷ cs) each x =
        and-then (AskedAre x (length (having_shape c).values)) _ (condition_asked (scope ∷ outer) keys c x) _ (each.0 x) (λ y first.
        weaker (AskedAre y (length (values_of cs))) (AskedAre x (length (values_of (c ∷ cs)))) (all_asked (map (condition_asked (scope ∷ outer) keys) cs) y) (all-are cs each.1 y)
        (λ z next. rw (length-append (having_shape c).values (values_of cs)) (asked-then x y z _ _ first next)))

    condition-are : (c : HavingCondition) → ConditionAre c
    condition-are = each-having ConditionAre
        (λ a op o x. rw (asked-Compare (scope ∷ outer) keys a op o, shape-Compare a op o)
        (and-then (λ r. AskedAre x (length (named a)) r.1) _ (term_asked (scope ∷ outer) keys a x) _ (term-are a x) (λ left first.
        and-then (λ r. AskedAre left.1 (length (named o)) r.1) _ (term_asked (scope ∷ outer) keys o left.1) _ (term-are o left.1) (λ right next.
        given-if (AskedAre x (length (named a ++ named o))) (refusal MixedKinds op.at) (are_comparable left.0 right.0) right.1
        (λ fit. rw (length-append (named a) (named o)) (asked-then x left.1 right.1 _ _ first next))))))
        (λ a x. rw (asked-IsNull (scope ∷ outer) keys a, shape-IsNull a) (and-then (λ r. AskedAre x (length (named a)) r.1) _ (term_asked (scope ∷ outer) keys a x) _ (term-are a x) (λ tested is. is)))
        (λ c is x. rw (asked-Not (scope ∷ outer) keys c, shape-Not c) (is x))
        (λ cs each x. rw (asked-And (scope ∷ outer) keys cs, shape-And cs) (all-are cs each x))
        (λ cs each x. rw (asked-Or (scope ∷ outer) keys cs, shape-Or cs) (all-are cs each x))

    pub having-are : (having : Option HavingCondition) (x : Asked) → Given (AskedAre x (length (having_values having))) (having_asked (scope ∷ outer) keys having x)
    having-are None x = none-asked x
    having-are (Some h) x = condition-are h x

  pub outputs-are : (grouped : Bool) (keys : List ℕ) (number : ℕ) (l : SelectList) → (0 < aggregates l → grouped ≡ true) → Given (OutputsAre grouped keys number (aggregates l)) (outputs_in scope (scope ∷ outer) grouped keys number l)
  outputs-are grouped keys number (list.Items items) allowed = items-are grouped keys items number (allowed-from grouped keys items allowed)
  outputs-are grouped keys number (list.Star at) allowed =
      let wide = fits.0 in
      given-if (OutputsAre grouped keys number 0) (refusal UngroupedColumn at) (list_all (λ o. is_shown grouped keys o.item) (all_columns 0 scope)) (all_columns 0 scope)
      (own-all grouped keys number (all_columns 0 scope) (all-own grouped keys 0 scope (omega (arith, wide))))
