-- The lines of a block are well formed: its WHERE, its Group, its Keep and its Distinct.
use Rattle.std.proofs.Common.{◌≡◌, refl, ap, sym, ◌∙◌, subst, ℕ, ◌<◌, ◌≤◌, Bool, true, false, ◌&&◌, ◌||◌, ◌==◌, not, nat_lt, if◌then◌else◌, List, [], ◌∷◌, ◌++◌, map, length, Option, Some, None, option_map, arith}
use Rattle.std.specs.Prelude.{slice_index_or}
use Rattle.std.specs.List.{list_all, list_any, AllByRecursion}
use Rattle.std.proofs.lemmas.Bool.{and_parts, and_from, or_parts, eq-eqb, eqb-true, lt-ltb, ltb-true, or_left, or_right, cond_both, cond-true, not_from_false, not-true, false≢true}
use Rattle.std.proofs.lemmas.List.Folds.{list_all-append, list_any-append}
use mathlib.Core.List.{map-append}
use Rattle.query.specs.declared.query.Column.{Column}
use Rattle.query.specs.declared.query.Aggregate.{Aggregate}
use Rattle.query.specs.declared.query.Aggregate.TheVariants as by
use Rattle.query.specs.declared.query.Item.{Item}
use Rattle.query.specs.declared.query.Item.TheVariants as item
use Rattle.query.specs.declared.query.TableInstance.{TableInstance}
use Rattle.query.specs.declared.query.Cond.{Cond}
use Rattle.query.specs.declared.query.Block.{Block}
use Rattle.query.specs.Bound.{Scope, having_scope, BlockScope, number, number_at, names, is_among, all_differ, aggregate_numbers, bound_aggregate, bound_item, bound_group_item, bound_items, bound_filter, cond_scope, from_scope, item_number}
use Rattle.query.proofs.ScopeEquations.{scope-Block}
use Rattle.algebra.specs.declared.expr.Aggregation.{Aggregation}
use Rattle.algebra.specs.declared.expr.Expr.{Expr}
use Rattle.algebra.specs.declared.expr.Expr.TheVariants.{Group}
use Rattle.algebra.specs.AggregateOrder.{by_column}
use Rattle.algebra.specs.Columns.{has, is_subset, rising}
use Rattle.algebra.specs.Equality.{same_aggregation}
use Rattle.algebra.specs.Expressions.{is_query_column, is_formed, aggregate_reads, aggregate_columns, aggregation_formed, are_different}
use Rattle.algebra.specs.Classes.{class_columns, AreFormed}
use Rattle.frame.specs.Frames as frame
use Rattle.frame.specs.Frames.{CondLines, BlockFrame, cond_frame, from_frame, select_lines, group_lines, keep_lines, distinct_lines, key_columns, aggregations, numbered_aggregate, own_numbers, kept, last}
use Rattle.frame.proofs.FormedParts.{all-three, AllOwn, among_own, GroupsOwn, groups-before, number-own, FormedCond, FormedBlock, CondFormed, FromFormed, BlockFormed}
use Rattle.frame.proofs.FrameEquations.{frame-Block}
use Rattle.frame.proofs.FrameGroups.{place-has, key-has, key-below}
use Rattle.frame.proofs.FrameShapes.{end-grows, CondShape, BoundParts, Stages, cond-shape, bound-parts, bound-left, filtered, grouped, asked, stages-of}
use Rattle.frame.proofs.Shown.{all_parts}
use Rattle.frame.proofs.Growth.{grows-none, grows-longer, grows-some, top-columns, last-below}
use Rattle.frame.proofs.Induction.{OfFilter}
use Rattle.algebra.proofs.AggregateLists.{has-ordered, different-ordered, each-ordered}
use Rattle.algebra.proofs.ConnectiveParts.{conjuncts-columns, conjuncts-classes}
use Rattle.algebra.proofs.Puts.{differ-left, differ-right}
use Rattle.algebra.proofs.Same.{equal_aggregation}
use Rattle.algebra.proofs.Sets.{has-rising}
use Rattle.algebra.proofs.MentionedColumns.{all-rising, each_has}

-- ---- aggregates

-- the aggregates of items stand in the columns of their numbers
columns-are : (numbers : List ℕ) (items : List Item) → aggregate_columns (aggregations numbers items) ≡ aggregate_numbers items
columns-are numbers [] = refl
columns-are numbers (item.Column c ∷ items) = columns-are numbers items
columns-are numbers (item.Aggregate n a ∷ items) = ap (λ ns. n ∷ ns) (columns-are numbers items)

different-are : (ks : List ℕ) → are_different ks ≡ all_differ ks
different-are [] = refl
different-are (k ∷ ks) = ap (λ b. not (has ks k) && b) (different-are ks)

-- the columns of a block's aggregates differ
pub apart : (numbers : List ℕ) (items : List Item) (others : List ℕ) → all_differ (aggregate_numbers items ++ others) ≡ true → are_different (aggregate_columns (aggregations numbers items)) ≡ true
apart numbers items others differ = ap are_different (columns-are numbers items) ∙ different-are (aggregate_numbers items) ∙ differ-left (aggregate_numbers items) others differ

-- the query's own aggregates are its own in order too
among-ordered : (instances : List TableInstance) (own : List Aggregation) (numbers : List ℕ) (items : List Item) → are_different (aggregate_columns (aggregations numbers items)) ≡ true
    → among_own instances own (by_column (aggregations numbers items)) ≡ true → among_own instances own (aggregations numbers items) ≡ true
among-ordered instances own numbers items differ among = sym (each-ordered (λ a. list_any (same_aggregation a) own) (aggregations numbers items) differ) ∙ among

-- an aggregate of the query's own stands in a column of its own
aggregate-own : (own : List Aggregation) (a : Aggregation) → list_any (same_aggregation a) own ≡ true → list_any (λ b. b.column == a.column) own ≡ true
aggregate-own [] a h = h
aggregate-own (b ∷ own) a h = from (same_aggregation a b) refl (λ later. aggregate-own own a later) h
  where
    from : (t : Bool) → same_aggregation a b ≡ t → (list_any (same_aggregation a) own ≡ true → list_any (λ d. d.column == a.column) own ≡ true) → (t || list_any (same_aggregation a) own) ≡ true
        → ((b.column == a.column) || list_any (λ d. d.column == a.column) own) ≡ true
    from true is more h = or_left _ _ (eq-eqb _ _ (ap (λ d. d.column) (sym (equal_aggregation a b is))))
    from false is more h = or_right _ _ (more h)

-- an item's number, if it is an aggregate, is one of the aggregates'
abbrev HasNumber : List Item → Item → Type 0
HasNumber items (item.Column c) = Unit {0}
HasNumber items (item.Aggregate n a) = has (aggregate_numbers items) n ≡ true

number-later : (j : Item) (items : List Item) (i : Item) → HasNumber items i → HasNumber (j ∷ items) i
number-later j items (item.Column c) h = tt
number-later (item.Column c) items (item.Aggregate n a) h = h
number-later (item.Aggregate m b) items (item.Aggregate n a) h = or_right (m == n) _ h

numbers-later : (j : Item) (items its : List Item) → AllByRecursion (HasNumber items) its → AllByRecursion (HasNumber (j ∷ items)) its
numbers-later j items [] all = tt
numbers-later j items (i ∷ its) all = (number-later j items i all.0, numbers-later j items its all.1)

number-first : (i : Item) (items : List Item) → HasNumber (i ∷ items) i
number-first (item.Column c) items = tt
number-first (item.Aggregate n a) items = or_left _ _ (eq-eqb n n refl)

have-numbers : (items : List Item) → AllByRecursion (HasNumber items) items
have-numbers [] = tt
have-numbers (i ∷ items) = (number-first i items, numbers-later i items items (have-numbers items))

-- ---- items

-- a column of the own FROM has the number at its place
pub own-number : (numbers : List ℕ) (scope : Scope) (c : Column) → (c.level == 0) ≡ true → number (numbers ∷ scope) c ≡ number_at numbers c.place
own-number numbers scope c is = ap (λ l. number_at (slice_index_or (numbers ∷ scope) l []) c.place) (eqb-true c.level 0 is)

own-there : (numbers : List ℕ) (scope : Scope) (c : Column) → (c.level == 0) ≡ true → names (numbers ∷ scope) c ≡ nat_lt c.place (length numbers)
own-there numbers scope c is = ap (λ l. nat_lt c.place (length (slice_index_or (numbers ∷ scope) l []))) (eqb-true c.level 0 is)

-- a column that a grouped block shows is there
group-names : (numbers keys : List ℕ) (scope : Scope) (c : Column) → list_all (λ k. nat_lt k (length numbers)) keys ≡ true → bound_group_item (length numbers) keys (numbers ∷ scope) (item.Column c) ≡ true → names (numbers ∷ scope) c ≡ true
group-names numbers keys scope c below h = from (c.level == 0) refl h
  where
    from : (b : Bool) → (c.level == 0) ≡ b → (if b then is_among c.place keys else names (numbers ∷ scope) c) ≡ true → names (numbers ∷ scope) c ≡ true
    from true is h = own-there numbers scope c is ∙ lt-ltb _ _ (key-below (length numbers) keys c.place below h)
    from false is h = h

-- what holds of each of the block's own items holds of their numbers
kept-all : (p : ℕ → Bool) (scope : Scope) (items : List Item) → AllByRecursion (λ i. frame.is_block_item i ≡ true → p (item_number scope i) ≡ true) items → list_all p (kept scope items) ≡ true
kept-all p scope items all = all-rising p (own_numbers scope items) ∙ listed items all
  where
    listed : (its : List Item) → AllByRecursion (λ i. frame.is_block_item i ≡ true → p (item_number scope i) ≡ true) its → list_all p (own_numbers scope its) ≡ true
    listed [] all = refl
    listed (i ∷ its) all = cond_both (frame.is_block_item i) _ _ (λ ks. list_all p ks ≡ true) (λ is. and_from _ _ (all.0 is) (listed its all.1)) (λ isnt. listed its all.1)

module _ (instances : List TableInstance) (own : List Aggregation) where
  -- ---- WHERE and HAVING

  where-formed : (o : Option Cond) (inner : Scope) (A : List Expr) → OfFilter (CondFormed instances own) (FromFormed instances own) (BlockFormed instances own) o → AllOwn instances own inner → AreFormed instances own A → 0 < length A
      → bound_filter (option_map (cond_scope instances) o) inner ≡ true → GroupsOwn instances own (select_lines (option_map (cond_frame instances) o) inner A) → AreFormed instances own (select_lines (option_map (cond_frame instances) o) inner A)
  where-formed None inner A is_formed all formed some bound groups = formed
  where-formed (Some c) inner A is_formed all formed some bound groups =
      let framed : CondLines = cond_frame instances c inner A in
      let shape : CondShape instances framed (cond_scope instances c) A = cond-shape instances c inner A in
      let test : FormedCond instances own framed = is_formed inner A all formed bound groups.1 in
      let below : last A < length A = last-below A some in
      let longer : length A ≤ length framed.lines = grows-longer framed.lines A shape.grows in
      let p : ℕ → Bool = λ g. nat_lt g (length framed.lines) in (
        rw (lt-ltb (last A) (length framed.lines) (omega (arith, below, longer)), conjuncts-classes framed.condition p ∙ shape.named p (λ g low lt. lt-ltb _ _ lt)) refl,
        and_from _ _ (conjuncts-columns framed.condition (is_query_column instances own) ∙ test.named) refl,
        test.lines,
      )

  -- ---- behind FROM and WHERE, whose last class has the columns of the FROM

  module _ (numbers : List ℕ) (scope : Scope) (B : List Expr) (some : 0 < length B) (columns : (c : ℕ) → has (class_columns instances B (last B)) c ≡ has numbers c) where
    abbrev cols : List ℕ
    cols = class_columns instances B (last B)

    place-in : (k : ℕ) → nat_lt k (length numbers) ≡ true → has cols (number_at numbers k) ≡ true
    place-in k lt = columns (number_at numbers k) ∙ place-has numbers k (ltb-true _ _ lt)

    keys-in : (keys : List ℕ) → list_all (λ k. nat_lt k (length numbers)) keys ≡ true → list_all (has cols) (map (number_at numbers) keys) ≡ true
    keys-in [] below = refl
    keys-in (k ∷ keys) below = let parts = and_parts (nat_lt k (length numbers)) _ below in and_from _ _ (place-in k parts.0) (keys-in keys parts.1)

    reads-in : (a : Aggregate) → bound_aggregate (length numbers) a ≡ true → is_subset (aggregate_reads (numbered_aggregate numbers a)) cols ≡ true
    reads-in by.CountRows bound = refl
    reads-in (by.Count k) bound = and_from _ _ (place-in k bound) refl
    reads-in (by.Sum k) bound = and_from _ _ (place-in k bound) refl
    reads-in (by.Min k) bound = and_from _ _ (place-in k bound) refl
    reads-in (by.Max k) bound = and_from _ _ (place-in k bound) refl

    -- each aggregate reads the columns of the FROM, and is none of them
    aggregates-formed : (keys : List ℕ) (items : List Item) → all_differ (aggregate_numbers items ++ numbers) ≡ true → list_all (bound_group_item (length numbers) keys (numbers ∷ scope)) items ≡ true
        → among_own instances own (aggregations numbers items) ≡ true → list_all (aggregation_formed own cols) (aggregations numbers items) ≡ true
    aggregates-formed keys [] differ bound among = refl
    aggregates-formed keys (item.Column c ∷ items) differ bound among = aggregates-formed keys items differ (and_parts _ _ bound).1 among
    aggregates-formed keys (item.Aggregate n a ∷ items) differ bound among =
        let new = and_parts (not (has (aggregate_numbers items ++ numbers) n)) _ differ in
        let there = and_parts (bound_aggregate (length numbers) a) _ bound in
        let listed = and_parts (list_any (same_aggregation (record { column = n; aggregate = numbered_aggregate numbers a })) own) _ among in
        let out : has numbers n ≡ false = (or_parts (has (aggregate_numbers items) n) (has numbers n) (sym (list_any-append (λ k. k == n) (aggregate_numbers items) numbers) ∙ not-true _ new.0)).1 in
        and_from _ _ (all-three _ _ _ listed.0 (reads-in a there.0) (not_from_false _ (columns n ∙ out))) (aggregates-formed keys items new.1 there.1 listed.1)

    group-formed : (keys : List ℕ) (items : List Item) → list_all (λ k. nat_lt k (length numbers)) keys ≡ true → all_differ (aggregate_numbers items ++ numbers) ≡ true
        → list_all (bound_group_item (length numbers) keys (numbers ∷ scope)) items ≡ true → among_own instances own (aggregations numbers items) ≡ true
        → is_formed instances own (class_columns instances B) (Group (key_columns numbers keys) (by_column (aggregations numbers items)) (last B)) ≡ true
    group-formed keys items below differ bound among =
        all-three _ _ _ (all-rising (has cols) (map (number_at numbers) keys) ∙ keys-in keys below)
        (different-ordered (aggregations numbers items)) (each-ordered (aggregation_formed own cols) (aggregations numbers items) (apart numbers items numbers differ) ∙ aggregates-formed keys items differ bound among)

    -- ---- what is kept

    plain-kept : (items : List Item) → list_all (bound_item (numbers ∷ scope)) items ≡ true → AllByRecursion (λ i. frame.is_block_item i ≡ true → has cols (item_number (numbers ∷ scope) i) ≡ true) items
    plain-kept [] bound = tt
    plain-kept (item.Column c ∷ items) bound =
        let parts = and_parts (names (numbers ∷ scope) c) _ bound in
        (λ is. ap (has cols) (own-number numbers scope c is) ∙ place-in c.place (sym (own-there numbers scope c is) ∙ parts.0), plain-kept items parts.1)
    plain-kept (item.Aggregate n a ∷ items) bound = absurd (false≢true bound)

    -- the columns of a Group are its keys' and its aggregates'
    abbrev group_columns : List ℕ → List Item → List ℕ
    group_columns keys items = rising (key_columns numbers keys ++ aggregate_columns (by_column (aggregations numbers items)))

    group-has : (keys : List ℕ) (items : List Item) (c : ℕ) → has (group_columns keys items) c ≡ (has (map (number_at numbers) keys) c || has (aggregate_numbers items) c)
    group-has keys items c =
        has-rising c (key_columns numbers keys ++ aggregate_columns (by_column (aggregations numbers items))) ∙ list_any-append (λ k. k == c) (key_columns numbers keys) (aggregate_columns (by_column (aggregations numbers items)))
        ∙ rw (has-rising c (map (number_at numbers) keys), has-ordered (aggregations numbers items) c, columns-are numbers items) refl

    group-kept : (keys : List ℕ) (items its : List Item) → AllByRecursion (HasNumber items) its → list_all (bound_group_item (length numbers) keys (numbers ∷ scope)) its ≡ true
        → AllByRecursion (λ i. frame.is_block_item i ≡ true → has (group_columns keys items) (item_number (numbers ∷ scope) i) ≡ true) its
    group-kept keys items [] have bound = tt
    group-kept keys items (item.Column c ∷ its) have bound =
        let parts = and_parts (bound_group_item (length numbers) keys (numbers ∷ scope) (item.Column c)) _ bound in (
          λ is. let key : is_among c.place keys ≡ true = sym (cond-true _ _ _ is) ∙ parts.0 in
              ap (has (group_columns keys items)) (own-number numbers scope c is) ∙ group-has keys items (number_at numbers c.place) ∙ or_left _ _ (key-has numbers keys c.place key),
          group-kept keys items its have.1 parts.1,
        )
    group-kept keys items (item.Aggregate n a ∷ its) have bound =
        (λ is. group-has keys items n ∙ or_right (has (map (number_at numbers) keys) n) _ have.0, group-kept keys items its have.1 (and_parts (bound_aggregate (length numbers) a) _ bound).1)

    -- ---- the last lines

    keep-formed : (items : List Item) (G : List Expr) → 0 < length G → AreFormed instances own G → AllByRecursion (λ i. frame.is_block_item i ≡ true → has (class_columns instances G (last G)) (item_number (numbers ∷ scope) i) ≡ true) items
        → AreFormed instances own (keep_lines (numbers ∷ scope) items G)
    keep-formed items G some formed all = (rw (lt-ltb (last G) (length G) (last-below G some)) refl, kept-all (has (class_columns instances G (last G))) (numbers ∷ scope) items all, formed)

    distinct-formed : (twice : Bool) (G : List Expr) → 0 < length G → AreFormed instances own G → AreFormed instances own (distinct_lines twice G)
    distinct-formed false G some formed = formed
    distinct-formed true G some formed = (rw (lt-ltb (last G) (length G) (last-below G some)) refl, refl, formed)

    -- the lines of a Group, where there is one
    groups-formed : (is_grouped : Bool) (keys : List ℕ) (items : List Item) → all_differ (aggregate_numbers items ++ numbers) ≡ true → bound_items is_grouped (length numbers) keys items (numbers ∷ scope) ≡ true
        → AreFormed instances own B → GroupsOwn instances own (group_lines is_grouped numbers keys items B) → AreFormed instances own (group_lines is_grouped numbers keys items B)
    groups-formed false keys items differ bound formed groups = formed
    groups-formed true keys items differ bound formed groups =
        let parts = and_parts (list_all (λ k. nat_lt k (length numbers)) keys) _ bound in
        let among : among_own instances own (aggregations numbers items) ≡ true = among-ordered instances own numbers items (apart numbers items numbers differ) groups.0 in
        (rw (lt-ltb (last B) (length B) (last-below B some)) refl, group-formed keys items parts.0 differ parts.1 among, formed)

    -- their last class has the numbers of the block's own items
    groups-kept : (is_grouped : Bool) (keys : List ℕ) (items its : List Item) → AllByRecursion (HasNumber items) its → bound_items is_grouped (length numbers) keys its (numbers ∷ scope) ≡ true
        → AllByRecursion (λ i. frame.is_block_item i ≡ true → has (class_columns instances (group_lines is_grouped numbers keys items B) (last (group_lines is_grouped numbers keys items B))) (item_number (numbers ∷ scope) i) ≡ true) its
    groups-kept false keys items its have bound = plain-kept its bound
    groups-kept true keys items its have bound =
        let top : Expr = Group (key_columns numbers keys) (by_column (aggregations numbers items)) (last B) in
        subst (λ cs. AllByRecursion (λ i. frame.is_block_item i ≡ true → has cs (item_number (numbers ∷ scope) i) ≡ true) its) (sym (top-columns instances top B))
        (group-kept keys items its have (and_parts (list_all (λ k. nat_lt k (length numbers)) keys) _ bound).1)

  -- ---- what is shown

  plain-shown : (inner : Scope) → AllOwn instances own inner → (items : List Item) → list_all (bound_item inner) items ≡ true → list_all (is_query_column instances own) (map (item_number inner) items) ≡ true
  plain-shown inner all [] bound = refl
  plain-shown inner all (item.Column c ∷ items) bound = let parts = and_parts (names inner c) _ bound in and_from _ _ (number-own instances own inner all c parts.0) (plain-shown inner all items parts.1)
  plain-shown inner all (item.Aggregate n a ∷ items) bound = absurd (false≢true bound)

  group-shown : (numbers keys : List ℕ) (scope : Scope) → AllOwn instances own (numbers ∷ scope) → list_all (λ k. nat_lt k (length numbers)) keys ≡ true → (items : List Item)
      → list_all (bound_group_item (length numbers) keys (numbers ∷ scope)) items ≡ true → among_own instances own (aggregations numbers items) ≡ true → list_all (is_query_column instances own) (map (item_number (numbers ∷ scope)) items) ≡ true
  group-shown numbers keys scope all below [] bound among = refl
  group-shown numbers keys scope all below (item.Column c ∷ items) bound among =
      let parts = and_parts (bound_group_item (length numbers) keys (numbers ∷ scope) (item.Column c)) _ bound in
      and_from _ _ (number-own instances own (numbers ∷ scope) all c (group-names numbers keys scope c below parts.0)) (group-shown numbers keys scope all below items parts.1 among)
  group-shown numbers keys scope all below (item.Aggregate n a ∷ items) bound among =
      let a_own : Aggregation = record { column = n; aggregate = numbered_aggregate numbers a } in
      let listed = and_parts (list_any (same_aggregation a_own) own) _ among in
      and_from _ _ (or_right _ _ (aggregate-own own a_own listed.0)) (group-shown numbers keys scope all below items (and_parts (bound_aggregate (length numbers) a) _ bound).1 listed.1)

  groups-shown : (is_grouped : Bool) (numbers keys : List ℕ) (scope : Scope) (items : List Item) (B : List Expr) → AllOwn instances own (numbers ∷ scope) → all_differ (aggregate_numbers items ++ numbers) ≡ true → bound_items is_grouped (length numbers) keys items (numbers ∷ scope) ≡ true
      → GroupsOwn instances own (group_lines is_grouped numbers keys items B) → list_all (is_query_column instances own) (map (item_number (numbers ∷ scope)) items) ≡ true
  groups-shown false numbers keys scope items B all differ bound groups = plain-shown (numbers ∷ scope) all items bound
  groups-shown true numbers keys scope items B all differ bound groups =
      let parts = and_parts (list_all (λ k. nat_lt k (length numbers)) keys) _ bound in
      group-shown numbers keys scope all parts.0 items parts.1 (among-ordered instances own numbers items (apart numbers items numbers differ) groups.0)

  -- ---- blocks

  block-as : (f g : BlockFrame) (s t : BlockScope) (scope : Scope) (E : List Expr) → f ≡ g → s ≡ t → (t.bound scope ≡ true → GroupsOwn instances own (g.lines scope E) → FormedBlock instances own g scope E)
      → s.bound scope ≡ true → GroupsOwn instances own (f.lines scope E) → FormedBlock instances own f scope E
  block-as f g s t scope E is as_ h = rw (is, as_) h

  pub formed-Block : (q : Block) → FromFormed instances own q.from → OfFilter (CondFormed instances own) (FromFormed instances own) (BlockFormed instances own) q.filter → OfFilter (CondFormed instances own) (FromFormed instances own) (BlockFormed instances own) q.having → BlockFormed instances own q
  formed-Block q from_formed filter_formed having_formed scope E all formed =
      let numbers : List ℕ = (from_frame instances q.from).numbers in
      let inner : Scope = numbers ∷ scope in
      let items : List Item = q.items ++ q.having_items in
      let A : List Expr = (from_frame instances q.from).lines scope E in
      let B : List Expr = filtered instances q scope E in
      let G : List Expr = grouped instances q scope E in
      let H : List Expr = asked instances q scope E in
      let stages : Stages instances q scope E = stages-of instances q scope E in
      let inner_own : AllOwn instances own inner = (λ c in_. or_left _ _ (stages.from.used c in_), all) in
      let columns : (c : ℕ) → has (class_columns instances B (last B)) c ≡ has numbers c = λ c. ap (λ ns. has ns c) stages.where_.columns ∙ stages.from.columns c in
      block-as _ _ _ _ scope E (frame-Block instances q) (scope-Block instances q) (λ bound groups.
      let parts : BoundParts instances q scope = bound-parts instances q scope bound in
      let differ : all_differ (aggregate_numbers items ++ numbers) ≡ true = (and_parts (all_differ (aggregate_numbers items ++ numbers)) _ parts.new).0 in
      let asked_own : GroupsOwn instances own H = groups-before instances own (distinct_lines q.distinct (keep_lines inner q.items H)) H (end-grows q.distinct inner q.items H H (grows-none H)) groups in
      let groups_own : GroupsOwn instances own G = groups-before instances own H G stages.having.grows asked_own in
      let behind : GroupsOwn instances own B = groups-before instances own H B stages.behind asked_own in
      let source : AreFormed instances own A = from_formed scope E all formed parts.from (differ-right (aggregate_numbers items) numbers differ) (groups-before instances own B A stages.where_.grows behind) in
      let selected : AreFormed instances own B = where-formed q.filter inner A filter_formed inner_own source stages.from.some parts.filter behind in
      let grouped_formed : AreFormed instances own G = groups-formed numbers scope B stages.filtered_some columns q.grouped q.keys items differ parts.items selected groups_own in
      let shown : list_all (is_query_column instances own) (map (item_number inner) q.items ++ map (item_number inner) q.having_items) ≡ true =
      sym (ap (list_all (is_query_column instances own)) (map-append (item_number inner) q.items q.having_items)) ∙ groups-shown q.grouped numbers q.keys scope items B inner_own differ parts.items groups_own in
      let both = and_parts (list_all (is_query_column instances own) (map (item_number inner) q.items)) _ (sym (list_all-append (is_query_column instances own) (map (item_number inner) q.items) (map (item_number inner) q.having_items)) ∙ shown) in
      let asked_formed : AreFormed instances own H = where-formed q.having (having_scope inner q.having_items) G having_formed (each_has (is_query_column instances own) (map (item_number inner) q.having_items) both.1, tt) grouped_formed stages.grouped_some parts.having asked_own in
      let kept_columns : AllByRecursion (λ i. frame.is_block_item i ≡ true → has (class_columns instances G (last G)) (item_number inner i) ≡ true) q.items =
      groups-kept numbers scope B stages.filtered_some columns q.grouped q.keys items q.items (all_parts (HasNumber items) q.items q.having_items (have-numbers items)).0 (bound-left q.grouped (length numbers) q.keys q.items q.having_items inner parts.items) in
      record {
        lines = distinct-formed numbers scope B stages.filtered_some columns q.distinct (keep_lines inner q.items H) (omega arith)
            (keep-formed numbers scope B stages.filtered_some columns q.items H (grows-some H G stages.having.grows stages.grouped_some) asked_formed
            (subst (λ cs. AllByRecursion (λ i. frame.is_block_item i ≡ true → has cs (item_number inner i) ≡ true) q.items) (sym stages.having.columns) kept_columns));
        shown = both.0;
      })
