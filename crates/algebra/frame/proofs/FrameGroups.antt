-- The rows of a Group show a block's groups.
use Rattle.std.proofs.Common.{◌≡◌, refl, ap, sym, ◌∙◌, subst, ℕ, zero, suc, ◌<◌, Bool, true, false, ◌&&◌, ◌||◌, ◌==◌, not, nat_lt, pos, if◌then◌else◌, List, [], ◌∷◌, ◌++◌, map, filter, length, arith}
use Rattle.std.specs.Prelude.{slice_index_or}
use Rattle.std.specs.List.{list_all, AllByRecursion}
use Rattle.std.proofs.lemmas.Bool.{and_parts, eqb-true, eq-eqb, ltb-true, cond-true, cond-false, cond_both, or_left, or_right, false≢true, not-true}
use mathlib.Core.List.{map-map}
use Rattle.schema.specs.Databases.{Row, values_at}
use Rattle.values.specs.declared.value.Value.{Value}
use Rattle.values.specs.declared.value.Value.TheVariants as value
use Rattle.values.specs.Order.{same}
use Rattle.values.proofs.Lists.{all_passed, all_weaker}
use Rattle.query.specs.declared.query.Column.{Column}
use Rattle.query.specs.declared.query.Aggregate.{Aggregate}
use Rattle.query.specs.declared.query.Aggregate.TheVariants as by
use Rattle.query.specs.declared.query.Item.{Item}
use Rattle.query.specs.declared.query.Item.TheVariants as item
use Rattle.query.specs.Rows.{value_at, same_rows, column}
use Rattle.query.specs.Aggregates.{aggregate, aggregate_of, together, plus, lesser, greater, known, group_of, groups}
use Rattle.query.specs.Meaning.{item_of_row, item_of_group, key_value}
use Rattle.query.specs.Bound.{Scope, number, number_at, names, is_among, all_differ, bound_item, bound_group_item, bound_aggregate, aggregate_numbers, none_among}
use Rattle.algebra.specs.Columns.{has, insert, rising}
use Rattle.algebra.specs.Bags.{Env, Bag, lay, same_on, distinct_on, group}
use Rattle.algebra.specs.Expressions.{with_aggregates}
use Rattle.frame.specs.Frames.{numbered_aggregate, aggregations}
use Rattle.algebra.proofs.Sets.{has-rising}
use Rattle.algebra.proofs.Lists.{two, map-same, through, all-distinct, distinct_by, distinct-map, distinct-same}
use Rattle.algebra.proofs.Puts.{put, put-off, put-reads, place-reads, reads, Agrees, IsNew, agrees-put, not-among, none-disjoint, differ-disjoint, differ-left, new-left}
use Rattle.algebra.proofs.UniqueRows.{distinct_on-by}
use Rattle.algebra.proofs.MentionedColumns.{all-rising}
use Rattle.frame.proofs.Shown.{Reads, same_rows-cons, distinct-by}

-- ---- columns of the rows around

-- a column of the rows around reads as itself in the environment
pub around-reads : (numbers : List ℕ) (scope : Scope) (ρ : List Row) (e : Env) (s : Row) (c : Column) → (c.level == 0) ≡ false → names (numbers ∷ scope) c ≡ true → Agrees scope ρ e → e (number (numbers ∷ scope) c) ≡ column c (s ∷ ρ)
around-reads numbers scope ρ e s c outer there agree = by c.level outer there
  where
    by : (l : ℕ) → (l == 0) ≡ false → nat_lt c.place (length (slice_index_or (numbers ∷ scope) l [])) ≡ true → e (number_at (slice_index_or (numbers ∷ scope) l []) c.place) ≡ value_at c.place (slice_index_or (s ∷ ρ) l [])
    by zero outer there = cc
    by (suc l) outer there = reads scope ρ e (record { level = l; place = c.place }) there agree

pub place-has : (ns : List ℕ) (p : ℕ) → p < length ns → has ns (number_at ns p) ≡ true
place-has [] p lt = absurd (omega (arith, lt))
place-has (n ∷ ns) zero lt = or_left _ _ (eq-eqb n n refl)
place-has (n ∷ ns) (suc p) lt = or_right _ _ (place-has ns p (omega (arith, lt)))

level-off : (ns : List ℕ) (scope : Scope) (l p : ℕ) → list_all (none_among ns) scope ≡ true → nat_lt p (length (slice_index_or scope l [])) ≡ true → has ns (number_at (slice_index_or scope l []) p) ≡ false
level-off ns [] l p none there = absurd (let lt : p < 0 = ltb-true _ _ there in omega (arith, lt))
level-off ns (ks ∷ scope) zero p none there = none-disjoint ns ks (and_parts (none_among ns ks) _ none).0 (number_at ks p) (place-has ks p (ltb-true _ _ there))
level-off ns (ks ∷ scope) (suc l) p none there = level-off ns scope l p (and_parts (none_among ns ks) _ none).1 there

-- a column of the rows around is none of those that are new
around-off : (ns numbers : List ℕ) (scope : Scope) (c : Column) → list_all (none_among ns) scope ≡ true → (c.level == 0) ≡ false → names (numbers ∷ scope) c ≡ true → has ns (number (numbers ∷ scope) c) ≡ false
around-off ns numbers scope c none outer there = by c.level outer there
  where
    by : (l : ℕ) → (l == 0) ≡ false → nat_lt c.place (length (slice_index_or (numbers ∷ scope) l [])) ≡ true → has ns (number_at (slice_index_or (numbers ∷ scope) l []) c.place) ≡ false
    by zero outer there = cc
    by (suc l) outer there = level-off ns scope l c.place none there

-- ---- places among keys

-- the column of a key is one of the keys' columns
pub key-has : (numbers keys : List ℕ) (p : ℕ) → is_among p keys ≡ true → has (map (number_at numbers) keys) (number_at numbers p) ≡ true
key-has numbers [] p in_ = cc
key-has numbers (k ∷ keys) p in_ = from (k == p) refl (λ later. key-has numbers keys p later) in_
  where
    from : (b : Bool) → (k == p) ≡ b → (is_among p keys ≡ true → has (map (number_at numbers) keys) (number_at numbers p) ≡ true) → (b || is_among p keys) ≡ true → has (map (number_at numbers) (k ∷ keys)) (number_at numbers p) ≡ true
    from true is more in_ = or_left _ _ (eq-eqb _ _ (ap (number_at numbers) (eqb-true k p is)))
    from false is more in_ = or_right _ _ (more in_)

-- a place among keys that are below a width is below it
pub key-below : (width : ℕ) (keys : List ℕ) (p : ℕ) → list_all (λ k. nat_lt k width) keys ≡ true → is_among p keys ≡ true → p < width
key-below width [] p bound in_ = absurd (false≢true in_)
key-below width (k ∷ keys) p bound in_ = from (k == p) refl (λ later. key-below width keys p (and_parts (nat_lt k width) _ bound).1 later) in_
  where
    from : (b : Bool) → (k == p) ≡ b → (is_among p keys ≡ true → p < width) → (b || is_among p keys) ≡ true → p < width
    from true is more in_ = subst (λ n. n < width) (eqb-true k p is) (ltb-true _ _ (and_parts (nat_lt k width) _ bound).0)
    from false is more in_ = more in_

-- the rows of a list with the key of a row
abbrev pub with_key : List ℕ → List Row → Row → List Row
with_key keys L s = filter (λ r. same_rows (values_at keys s) (values_at keys r)) L

-- the first rows of each key
abbrev pub first_rows : List ℕ → List Row → List Row
first_rows keys L = distinct_by (λ s t. same_rows (values_at keys s) (values_at keys t)) L

module _ (numbers : List ℕ) (scope : Scope) (ρ : List Row) (e : Env) (agree : Agrees scope ρ e) where
  abbrev g : Row → Env
  g s = put numbers s e

  abbrev Wide : Row → Type 0
  Wide s = length s ≡ length numbers

  -- ---- the items of a block that isn't grouped

  plain-item : IsNew numbers scope → (i : Item) → bound_item (numbers ∷ scope) i ≡ true → Reads (numbers ∷ scope) e g (item_of_row ρ) Wide i
  plain-item new (item.Column c) bound = record {
    own = λ s wide. reads (numbers ∷ scope) (s ∷ ρ) (g s) c bound (agrees-put numbers s e scope ρ new wide agree);
    around = λ outer s wide. around-reads numbers scope ρ e s c outer bound agree;
  }
  plain-item new (item.Aggregate n a) bound = absurd (false≢true bound)

  pub plain-items : IsNew numbers scope → (items : List Item) → list_all (bound_item (numbers ∷ scope)) items ≡ true → AllByRecursion (Reads (numbers ∷ scope) e g (item_of_row ρ) Wide) items
  plain-items new items bound = all_passed (bound_item (numbers ∷ scope)) _ (plain-item new) items bound

  -- ---- keys

  module _ (new : IsNew numbers scope) where
    own-reads : (s : Row) (p : ℕ) → Wide s → p < length numbers → g s (number_at numbers p) ≡ value_at p s
    own-reads s p wide lt = sym (place-reads (g s) numbers p lt) ∙ ap (value_at p) (put-reads numbers s e new.0 wide)

    abbrev key_numbers : List ℕ → List ℕ
    key_numbers keys = map (number_at numbers) keys

    same-keys-listed : (keys : List ℕ) → list_all (λ k. nat_lt k (length numbers)) keys ≡ true → (s t : Row) → Wide s → Wide t → list_all (λ c. same (g s c) (g t c)) (key_numbers keys) ≡ same_rows (values_at keys s) (values_at keys t)
    same-keys-listed [] bound s t ws wt = refl
    same-keys-listed (k ∷ keys) bound s t ws wt =
        let parts = and_parts (nat_lt k (length numbers)) _ bound in
        let lt : k < length numbers = ltb-true _ _ parts.0 in
        two (λ a b. a && b) (two same (own-reads s k ws lt) (own-reads t k wt lt)) (same-keys-listed keys parts.1 s t ws wt) ∙ sym (same_rows-cons (value_at k s) (value_at k t) (values_at keys s) (values_at keys t))

    -- rows are the same in the key columns where their keys are
    same-keys : (keys : List ℕ) → list_all (λ k. nat_lt k (length numbers)) keys ≡ true → (s t : Row) → Wide s → Wide t → same_on (rising (key_numbers keys)) (g s) (g t) ≡ same_rows (values_at keys s) (values_at keys t)
    same-keys keys bound s t ws wt = all-rising (λ c. same (g s c) (g t c)) (key_numbers keys) ∙ same-keys-listed keys bound s t ws wt

    key-value : (keys : List ℕ) (s : Row) (p : ℕ) → is_among p keys ≡ true → key_value keys (values_at keys s) p ≡ value_at p s
    key-value [] s p in_ = cc
    key-value (k ∷ keys) s p in_ = from (k == p) refl (λ later. key-value keys s p later) in_
      where
        from : (b : Bool) → (k == p) ≡ b → (is_among p keys ≡ true → key_value keys (values_at keys s) p ≡ value_at p s) → (b || is_among p keys) ≡ true → (if b then value_at k s else key_value keys (values_at keys s) p) ≡ value_at p s
        from true is more in_ = ap (λ n. value_at n s) (eqb-true k p is)
        from false is more in_ = more in_

    -- ---- aggregates

    values-read : (M : List Row) → AllByRecursion Wide M → (p : ℕ) → p < length numbers → map (λ r. r (number_at numbers p)) (map g M) ≡ map (value_at p) M
    values-read M wide p lt = map-map (λ r. r (number_at numbers p)) g M ∙ map-same Wide (λ s. g s (number_at numbers p)) (value_at p) M (λ s w. own-reads s p w lt) wide

    length-map : (M : List Row) → length (map g M) ≡ length M
    length-map [] = refl
    length-map (s ∷ M) = ap suc (length-map M)

    -- an aggregate of rows by numbers is that of the rows
    aggregate-reads : (a : Aggregate) → bound_aggregate (length numbers) a ≡ true → (M : List Row) → AllByRecursion Wide M → aggregate_of (numbered_aggregate numbers a) (length (map g M)) (λ k. map (λ r. r k) (map g M)) ≡ aggregate a M
    aggregate-reads by.CountRows bound M wide = ap (λ n. value.Int (pos n)) (length-map M)
    aggregate-reads (by.Count p) bound M wide = ap (λ vs. value.Int (pos (known vs))) (values-read M wide p (ltb-true _ _ bound))
    aggregate-reads (by.Sum p) bound M wide = ap (together plus) (values-read M wide p (ltb-true _ _ bound))
    aggregate-reads (by.Min p) bound M wide = ap (together lesser) (values-read M wide p (ltb-true _ _ bound))
    aggregate-reads (by.Max p) bound M wide = ap (together greater) (values-read M wide p (ltb-true _ _ bound))

    abbrev Aggregates : List Item → List Env → Env → Env
    Aggregates items = with_aggregates (aggregations numbers items)

    -- a column that is no aggregate's stays
    with-off : (items : List Item) (R : List Env) (r : Env) (c : ℕ) → has (aggregate_numbers items) c ≡ false → Aggregates items R r c ≡ r c
    with-off [] R r c out = refl
    with-off (item.Column d ∷ items) R r c out = with-off items R r c out
    with-off (item.Aggregate n a ∷ items) R r c out = from (n == c) (λ later. with-off items R r c later) out
      where
        from : (b : Bool) → (has (aggregate_numbers items) c ≡ false → Aggregates items R r c ≡ r c) → (b || has (aggregate_numbers items) c) ≡ false → (if b then aggregate_of (numbered_aggregate numbers a) (length R) (λ k. map (λ s. s k) R) else Aggregates items R r c) ≡ r c
        from true more out = cc
        from false more out = more out

    -- an aggregate of the items is found in its column
    abbrev Found : List Item → Item → Type 0
    Found items (item.Column c) = Unit {0}
    Found items (item.Aggregate n a) = (has (aggregate_numbers items) n ≡ true) × ((R : List Env) (r : Env) → Aggregates items R r n ≡ aggregate_of (numbered_aggregate numbers a) (length R) (λ k. map (λ s. s k) R))

    found-later : (j : Item) (items : List Item) → all_differ (aggregate_numbers (j ∷ items)) ≡ true → (i : Item) → Found items i → Found (j ∷ items) i
    found-later (item.Column c) items differ (item.Column d) found = tt
    found-later (item.Column c) items differ (item.Aggregate n a) found = found
    found-later (item.Aggregate m b) items differ (item.Column d) found = tt
    found-later (item.Aggregate m b) items differ (item.Aggregate n a) found =
        let parts = and_parts (not (has (aggregate_numbers items) m)) _ differ in
        let other : (m == n) ≡ false = not-among m n (aggregate_numbers items) (not-true _ parts.0) found.0 in
        (or_right _ _ found.0, λ R r. cond-false _ _ _ other ∙ found.1 R r)

    differ-later : (i : Item) (items : List Item) → all_differ (aggregate_numbers (i ∷ items)) ≡ true → all_differ (aggregate_numbers items) ≡ true
    differ-later (item.Column c) items differ = differ
    differ-later (item.Aggregate n a) items differ = (and_parts (not (has (aggregate_numbers items) n)) _ differ).1

    found-first : (i : Item) (items : List Item) → Found (i ∷ items) i
    found-first (item.Column c) items = tt
    found-first (item.Aggregate n a) items = (or_left _ _ (eq-eqb n n refl), λ R r. cond-true _ _ _ (eq-eqb n n refl))

    all-found : (items : List Item) → all_differ (aggregate_numbers items) ≡ true → AllByRecursion (Found items) items
    all-found [] differ = tt
    all-found (i ∷ items) differ = (found-first i items, all_weaker (Found items) (Found (i ∷ items)) (found-later i items differ) items (all-found items (differ-later i items differ)))

    -- ---- the items of a group

    module _ (items : List Item) (keys : List ℕ) (apart : IsNew (aggregate_numbers items ++ numbers) scope) (bound : list_all (λ k. nat_lt k (length numbers)) keys ≡ true) where
      -- what a group's row is: the key of a row s, and the aggregates of the rows M with it
      abbrev group_row : (Row → List Row) → Row → Env
      group_row M s = Aggregates items (map g (M s)) (lay (has (rising (key_numbers keys))) (g s) e)

      abbrev group_shows : (Row → List Row) → Row → Item → Value
      group_shows M s = item_of_group keys ρ (record { key = values_at keys s; rows = M s })

      -- no column of the block is an aggregate's
      own-off : (p : ℕ) → p < length numbers → has (aggregate_numbers items) (number_at numbers p) ≡ false
      own-off p lt = differ-disjoint (aggregate_numbers items) numbers apart.0 (number_at numbers p) (place-has numbers p lt)

      lay-either : (K : ℕ → Bool) (n : ℕ) (x y : Env) (v : Value) → x n ≡ v → y n ≡ v → lay K x y n ≡ v
      lay-either K n x y v h k = cond_both (K n) (x n) (y n) (λ z. z ≡ v) (λ is. h) (λ isnt. k)

      own-column : (M : Row → List Row) (c : Column) → (c.level == 0) ≡ true → is_among c.place keys ≡ true → Reads (numbers ∷ scope) e (group_row M) (group_shows M) Wide (item.Column c)
      own-column M c is in_ =
          let lt : c.place < length numbers = key-below (length numbers) keys c.place bound in_ in
          let number_is : number (numbers ∷ scope) c ≡ number_at numbers c.place = ap (λ l. number_at (slice_index_or (numbers ∷ scope) l []) c.place) (eqb-true c.level 0 is) in
          record {
            own = λ s wide.
                ap (group_row M s) number_is ∙ with-off items (map g (M s)) _ (number_at numbers c.place) (own-off c.place lt)
                ∙ cond-true _ _ _ (has-rising (number_at numbers c.place) (key_numbers keys) ∙ key-has numbers keys c.place in_) ∙ own-reads s c.place wide lt
                ∙ sym (cond-true _ _ _ is ∙ key-value keys s c.place in_);
            around = λ outer s wide. cc (is, outer);
          }

      around-column : (M : Row → List Row) (c : Column) → (c.level == 0) ≡ false → names (numbers ∷ scope) c ≡ true → Reads (numbers ∷ scope) e (group_row M) (group_shows M) Wide (item.Column c)
      around-column M c is there =
          let n : ℕ = number (numbers ∷ scope) c in
          let outside : (s : Row) → e n ≡ group_shows M s (item.Column c) = λ s. around-reads numbers scope ρ e [] c is there agree ∙ sym (cond-false _ _ _ is) in
          let stays : (s : Row) → g s n ≡ e n = λ s. put-off numbers s e n (around-off numbers numbers scope c new.1 is there) in
          record {
            own = λ s wide.
                with-off items (map g (M s)) _ n (around-off (aggregate_numbers items) numbers scope c (new-left (aggregate_numbers items) numbers scope apart).1 is there)
                ∙ lay-either (has (rising (key_numbers keys))) n (g s) e _ (stays s ∙ outside s) (outside s);
            around = λ outer s wide. outside s;
          }

      group-item : (M : Row → List Row) → ((s : Row) → AllByRecursion Wide (M s)) → (i : Item) → Found items i → bound_group_item (length numbers) keys (numbers ∷ scope) i ≡ true → Reads (numbers ∷ scope) e (group_row M) (group_shows M) Wide i
      group-item M wide (item.Column c) found there = by (c.level == 0) refl there
        where
          by : (b : Bool) → (c.level == 0) ≡ b → (if b then is_among c.place keys else names (numbers ∷ scope) c) ≡ true → Reads (numbers ∷ scope) e (group_row M) (group_shows M) Wide (item.Column c)
          by true is in_ = own-column M c is in_
          by false is there = around-column M c is there
      group-item M wide (item.Aggregate n a) found there = record {
        own = λ s w. found.1 (map g (M s)) _ ∙ aggregate-reads a there (M s) (wide s);
        around = λ outer s w. cc;
      }

      each-item : (M : Row → List Row) → ((s : Row) → AllByRecursion Wide (M s)) → (its : List Item) → AllByRecursion (Found items) its → list_all (bound_group_item (length numbers) keys (numbers ∷ scope)) its ≡ true
          → AllByRecursion (Reads (numbers ∷ scope) e (group_row M) (group_shows M) Wide) its
      each-item M wide [] found there = tt
      each-item M wide (i ∷ its) found there =
          let parts = and_parts (bound_group_item (length numbers) keys (numbers ∷ scope) i) _ there in
          (group-item M wide i found.0 parts.0, each-item M wide its found.1 parts.1)

      -- each item of a group's row reads as it shows
      pub group-items : (M : Row → List Row) → ((s : Row) → AllByRecursion Wide (M s)) → list_all (bound_group_item (length numbers) keys (numbers ∷ scope)) items ≡ true
          → AllByRecursion (Reads (numbers ∷ scope) e (group_row M) (group_shows M) Wide) items
      group-items M wide there = each-item M wide items (all-found items (differ-left (aggregate_numbers items) numbers apart.0)) there

    -- ---- the rows of a Group

    group-some : (K : List ℕ) (add : List Env → Env → Env) (x : Bag) → 0 < length K → group K add x e ≡ map (λ r. add (filter (same_on K r) (x e)) (lay (has K) r e)) (distinct_on K (x e))
    group-some [] add x some = absurd (omega (arith, some))
    group-some (k ∷ K) add x some = refl

    rising-some : (k : ℕ) (ks : List ℕ) → 0 < length (rising (k ∷ ks))
    rising-some k ks = by (rising ks)
      where
        by : (ls : List ℕ) → 0 < length (insert k ls)
        by [] = omega arith
        by (l ∷ ls) = cond_both (nat_lt k l) (k ∷ l ∷ ls) (if k == l then l ∷ ls else l ∷ insert k ls) (λ zs. 0 < length zs) (λ is. omega arith)
            (λ isnt. cond_both (k == l) (l ∷ ls) (l ∷ insert k ls) (λ zs. 0 < length zs) (λ is. omega arith) (λ isnt. omega arith))

    -- with keys, one row for each first row of a key
    pub group-keyed : (items : List Item) (k : ℕ) (keys : List ℕ) (x : Bag) (L : List Row) → x e ≡ map g L → AllByRecursion Wide L → list_all (λ p. nat_lt p (length numbers)) (k ∷ keys) ≡ true
        → group (rising (key_numbers (k ∷ keys))) (Aggregates items) x e
        ≡ map (λ s. Aggregates items (map g (with_key (k ∷ keys) L s)) (lay (has (rising (key_numbers (k ∷ keys)))) (g s) e)) (first_rows (k ∷ keys) L)
    group-keyed items k keys x L is wide bound =
        let K : List ℕ = rising (key_numbers (k ∷ keys)) in
        let same_key : (s t : Row) → Wide s → Wide t → same_on K (g s) (g t) ≡ same_rows (values_at (k ∷ keys) s) (values_at (k ∷ keys) t) = same-keys (k ∷ keys) bound in
        group-some K (Aggregates items) x (rising-some (number_at numbers k) (key_numbers keys))
        ∙ ap (λ X. map (λ r. Aggregates items (filter (same_on K r) X) (lay (has K) r e)) (distinct_on K X)) is
        ∙ ap (map (λ r. Aggregates items (filter (same_on K r) (map g L)) (lay (has K) r e))) (distinct_on-by K (map g L) ∙ distinct-map g (same_on K) L ∙ ap (map g) (distinct-same Wide (λ s t. same_on K (g s) (g t)) (λ s t. same_rows (values_at (k ∷ keys) s) (values_at (k ∷ keys) t)) L same_key wide))
        ∙ map-map (λ r. Aggregates items (filter (same_on K r) (map g L)) (lay (has K) r e)) g (first_rows (k ∷ keys) L)
        ∙ map-same Wide _ _ (first_rows (k ∷ keys) L)
        (λ s ws. ap (λ X. Aggregates items X (lay (has K) (g s) e)) (through Wide g (same_on K (g s)) (λ r. same_rows (values_at (k ∷ keys) s) (values_at (k ∷ keys) r)) L (λ r wr. same_key s r ws wr) wide))
        (all-distinct Wide _ L wide)

-- groups by their first rows
pub groups-keyed : (k : ℕ) (keys : List ℕ) (L : List Row) → groups (k ∷ keys) L ≡ map (λ s. record { key = values_at (k ∷ keys) s; rows = with_key (k ∷ keys) L s }) (first_rows (k ∷ keys) L)
groups-keyed k keys L =
    ap (map (group_of (k ∷ keys) L)) (distinct-by (map (values_at (k ∷ keys)) L) ∙ distinct-map (values_at (k ∷ keys)) same_rows L)
    ∙ map-map (group_of (k ∷ keys) L) (values_at (k ∷ keys)) (first_rows (k ∷ keys) L)
