-- Over tables whose numbers have 64 bits, a plan's numbers have 64 bits in the columns of tables, if its aggregates stand in others.
use Rattle.std.proofs.Common.{◌≡◌, refl, ap, sym, ◌∙◌, subst, inl, inr, ℕ, ◌-◌, Bool, true, false, ◌||◌, ◌==◌, not, if◌then◌else◌, List, [], ◌∷◌, ◌++◌, map, filter, length, slice_get, Option, Some, None}
use Rattle.std.specs.List.{AllByRecursion, list_all}
use Rattle.std.specs.Ordering.{is_gt}
use Rattle.std.specs.declared.cmp.Ordering.{Ordering}
use Rattle.std.proofs.lemmas.Bool.{and_parts, or_cases, eqb-true, false≢true, not-true}
use Rattle.values.proofs.Each.{all_filter, all_map, all_flat_map}
use Rattle.schema.specs.Databases.{Row}
use Rattle.query.specs.declared.query.TableInstance.{TableInstance}
use Rattle.query.specs.declared.query.Aggregate.{Aggregate}
use Rattle.query.specs.declared.query.Aggregate.TheVariants as by
use Rattle.query.specs.Rows.{Tables, value_at}
use Rattle.query.specs.Meaning.{or_else_row}
use Rattle.values.specs.Short.{IsShort}
use Rattle.query.specs.Aggregates.{AreShortTables, MayRead, aggregate_of}
use Rattle.query.proofs.ShortTables.{short-value}
use Rattle.algebra.specs.declared.expr.Aggregation.{Aggregation}
use Rattle.algebra.specs.Columns.{ColumnSet, has, is_subset, rising}
use Rattle.algebra.specs.Bags.{Env, Bag, Test, lay, nulls, matches, same_on, distinct_on, group}
use Rattle.algebra.specs.Expressions.{instance_columns, instance_row, get_rows, get_columns, aggregate_reads, aggregate_columns, with_aggregates}
use Rattle.algebra.specs.TableColumns.{is_table_column, is_apart, are_apart}
use Rattle.algebra.proofs.Lists.{two}
use Rattle.algebra.proofs.Puts.{among-append}
use Rattle.algebra.proofs.Sets.{has-rising}
use Rattle.physical.specs.declared.plan.Matching.{Matching}
use Rattle.physical.specs.declared.plan.Matching.TheVariants.{Inner, Left, Semi, Anti}
use Rattle.physical.specs.declared.plan.GroupMethod.{GroupMethod}
use Rattle.physical.specs.declared.plan.Operator.{Operator}
use Rattle.physical.specs.declared.plan.Operator.TheVariants.{Scan, IndexScan, Filter, FilterSubqueries, Projection, JoinRows, IndexJoin, GroupRows, DistinctRows}
use Rattle.physical.specs.declared.plan.Node.{Node}
use Rattle.physical.specs.declared.plan.Node.TheVariants.{Implements, Sort}
use Rattle.physical.specs.declared.plan.Plan.{Plan, roll-Plan, fold-roll-Plan, ind-Plan, map-Plan}
use Rattle.physical.specs.declared.plan.Plan.TheOpen.{Plan-F}
use Rattle.physical.specs.Indexes.{accessed_columns, accessed_rows, index_order}
use Rattle.physical.specs.Sorts.{put_sorted, sorted, keys_order}
use Rattle.physical.specs.Outputs.{Output, operator_columns, operator_rows, node_rows, node_columns, output_layer, plan_output, first, rest, is_match, join_columns, join_rows, first_columns, second_columns}
use Rattle.physical.specs.Origins.{Origin, columns_of_all, all_read, read_among, operator_reads, node_reads, origin_layer, plan_origin, AreReadable}

module _ (stored : ColumnSet) where
  -- the row's numbers have 64 bits in those of the columns that are tables'
  abbrev pub IsShortIn : List ℕ → Env → Type 0
  IsShortIn columns r = (c : ℕ) → has columns c ≡ true → stored c ≡ true → IsShort (r c)

  abbrev pub AreShortIn : List ℕ → List Env → Type 0
  AreShortIn columns rows = AllByRecursion (IsShortIn columns) rows

  -- ---- rows

  -- a row that is laid over another
  laid : (K L M : List ℕ) (s r : Env) → ((c : ℕ) → has M c ≡ true → (has K c || has L c) ≡ true) → IsShortIn K s → IsShortIn L r → IsShortIn M (lay (has K) s r)
  laid K L M s r within_ over under c in_ = by (has K c) refl (within_ c in_)
    where
      by : (b : Bool) → has K c ≡ b → (b || has L c) ≡ true → stored c ≡ true → IsShort (if b then s c else r c)
      by true is there = over c is
      by false is there = under c there

  -- its own columns alone
  laid-own : (K : List ℕ) (s e : Env) → IsShortIn K s → IsShortIn K (lay (has K) s e)
  laid-own K s e short c in_ = by (has K c) refl in_
    where
      by : (b : Bool) → has K c ≡ b → b ≡ true → stored c ≡ true → IsShort (if b then s c else e c)
      by true is there = short c is
      by false is there = absurd (false≢true there)

  nulls-short : (K : List ℕ) → IsShortIn K nulls
  nulls-short K c in_ is = tt

  -- ---- lists of rows

  distinct-short : (K L : List ℕ) (rows : List Env) → AreShortIn K rows → AreShortIn K (distinct_on L rows)
  distinct-short K L [] all = tt
  distinct-short K L (r ∷ rows) all = (all.0, all_filter (IsShortIn K) (λ s. not (same_on L r s)) (distinct_on L rows) (distinct-short K L rows all.1))

  put-short : (K : List ℕ) (cmp : Env → Env → Ordering) (x : Env) (rows : List Env) → IsShortIn K x → AreShortIn K rows → AreShortIn K (put_sorted cmp x rows)
  put-short K cmp x [] short all = (short, tt)
  put-short K cmp x (y ∷ rows) short all = by (is_gt (cmp x y)) (put-short K cmp x rows short all.1)
    where
      by : (b : Bool) → AreShortIn K (put_sorted cmp x rows) → AreShortIn K (if b then y ∷ put_sorted cmp x rows else x ∷ y ∷ rows)
      by true more = (all.0, more)
      by false more = (short, all)

  sorted-short : (K : List ℕ) (cmp : Env → Env → Ordering) (rows : List Env) → AreShortIn K rows → AreShortIn K (sorted cmp rows)
  sorted-short K cmp [] all = tt
  sorted-short K cmp (x ∷ rows) all = put-short K cmp x (sorted cmp rows) all.0 (sorted-short K cmp rows all.1)

  -- a column of both sides of a join is one of the right, or else of the left
  either : (K L : List ℕ) (c : ℕ) → has (rising (K ++ L)) c ≡ true → (has L c || has K c) ≡ true
  either K L c in_ = by (has K c) (has L c) (sym (has-rising c (K ++ L) ∙ among-append c K L) ∙ in_)
    where
      by : (a b : Bool) → (a || b) ≡ true → (b || a) ≡ true
      by true true h = refl
      by true false h = refl
      by false b h = ap (λ d. d || false) h

  -- ---- operators

  module _ (K L : List ℕ) (p : Test) (rights : List Env) (right : AreShortIn L rights) where
    matches-short : (r : Env) → IsShortIn K r → AreShortIn (rising (K ++ L)) (matches p (has L) rights r)
    matches-short r short = all_filter (IsShortIn (rising (K ++ L))) p (map (λ s. lay (has L) s r) rights)
        (all_map (IsShortIn L) (IsShortIn (rising (K ++ L))) (λ s. lay (has L) s r) (λ s h. laid L K (rising (K ++ L)) s r (either K L) h short) rights right)

    padded-short : (r : Env) → IsShortIn K r → (found : List Env) → AreShortIn (rising (K ++ L)) found → AreShortIn (rising (K ++ L)) (or_else_row (lay (has L) nulls r) found)
    padded-short r short [] all = (laid L K (rising (K ++ L)) nulls r (either K L) (nulls-short L) short, tt)
    padded-short r short (s ∷ found) all = all

  -- a join of such sides
  join-short : (K L : List ℕ) (j : Matching) (a b : Bag) (e : Env) → AreShortIn K (a e) → AreShortIn L (b e) → AreShortIn (join_columns j K L) (join_rows j L a b e)
  join-short K L (Inner C) a b e left right =
      all_flat_map (IsShortIn K) (IsShortIn (rising (K ++ L))) (matches (is_match (Inner C)) (has L) (b e)) (matches-short K L (is_match (Inner C)) (b e) right) (a e) left
  join-short K L (Left C) a b e left right =
      let p : Test = is_match (Left C) in
      all_flat_map (IsShortIn K) (IsShortIn (rising (K ++ L))) (λ r. or_else_row (lay (has L) nulls r) (matches p (has L) (b e) r))
      (λ r h. padded-short K L p (b e) right r h (matches p (has L) (b e) r) (matches-short K L p (b e) right r h)) (a e) left
  join-short K L (Semi C) a b e left right = all_filter _ _ _ left
  join-short K L (Anti S M) a b e left right = all_filter _ _ _ left

  use-short : (t : TableInstance) (row : Row) (e : Env) → AllByRecursion IsShort row → IsShortIn (instance_columns t) (instance_row t row e)
  use-short t row e short = laid-own (instance_columns t) (λ c. value_at (c - t.first_column) row) e (λ c in_ is. short-value (c - t.first_column) row short)

  scan-short : (o : Option TableInstance) (D : Tables) (e : Env) → AreShortTables D → AreShortIn (get_columns o) (get_rows o D e)
  scan-short None D e short = tt
  scan-short (Some t) D e short = all_map (AllByRecursion IsShort) (IsShortIn (instance_columns t)) (λ row. instance_row t row e) (λ row h. use-short t row e h) (D.rows t.table) (short t.table)

  subset-has : (K L : List ℕ) (c : ℕ) → is_subset K L ≡ true → has K c ≡ true → has L c ≡ true
  subset-has [] L c all in_ = cc
  subset-has (k ∷ K) L c all in_ =
      let parts = and_parts _ _ all in
      elim (or_cases (k == c) (has K c) in_) [
        | inl is ↦ ap (has L) (sym (eqb-true k c is)) ∙ parts.0
        | inr later ↦ subset-has K L c parts.1 later
      ]

  narrower : (K L : List ℕ) (rows : List Env) → is_subset K L ≡ true → AreShortIn L rows → (e : Env) → AreShortIn K (map (λ r. lay (has K) r e) rows)
  narrower K L rows within_ all e = all_map (IsShortIn L) (IsShortIn K) (λ r. lay (has K) r e) (λ r h. laid-own K r e (λ c in_. h c (subset-has K L c within_ in_))) rows all

  -- ---- groups

  -- an aggregate stands in no column of a table
  added-other : (G : List Aggregation) (c : ℕ) → are_apart stored G ≡ true → stored c ≡ true → has (aggregate_columns G) c ≡ true → ⊥
  added-other [] c apart is in_ = false≢true in_
  added-other (a ∷ G) c apart is in_ =
      let parts = and_parts (is_apart stored a) _ apart in
      elim (or_cases (a.column == c) (has (aggregate_columns G) c) in_) [
        | inl same ↦ false≢true (sym (not-true (stored a.column) (and_parts (list_all stored (aggregate_reads a.aggregate)) _ parts.0).1) ∙ ap stored (eqb-true a.column c same) ∙ is)
        | inr later ↦ added-other G c parts.1 is later
      ]

  -- so the others are as they were
  added-keeps : (G : List Aggregation) (rows : List Env) (r : Env) (c : ℕ) → has (aggregate_columns G) c ≡ false → IsShort (r c) → IsShort (with_aggregates G rows r c)
  added-keeps [] rows r c out short = short
  added-keeps (a ∷ G) rows r c out short = by (λ later. added-keeps G rows r c later short) (a.column == c) out
    where
      by : (has (aggregate_columns G) c ≡ false → IsShort (with_aggregates G rows r c)) → (b : Bool) → (b || has (aggregate_columns G) c) ≡ false → IsShort (if b then aggregate_of a.aggregate (length rows) (λ k. map (λ s. s k) rows) else with_aggregates G rows r c)
      by more true out = absurd (false≢true (sym out))
      by more false out = more out

  added-short : (K : List ℕ) (G : List Aggregation) (rows : List Env) (r : Env) → are_apart stored G ≡ true → IsShortIn K r → IsShortIn (rising (K ++ aggregate_columns G)) (with_aggregates G rows r)
  added-short K G rows r apart short c in_ is = by (has (aggregate_columns G) c) refl (sym (has-rising c (K ++ aggregate_columns G) ∙ among-append c K (aggregate_columns G)) ∙ in_)
    where
      by : (b : Bool) → has (aggregate_columns G) c ≡ b → (has K c || b) ≡ true → IsShort (with_aggregates G rows r c)
      by true there either = absurd (added-other G c apart is there)
      by false out either = added-keeps G rows r c out (short c (from (has K c) either) is)
        where
          from : (b : Bool) → (b || false) ≡ true → b ≡ true
          from true h = refl
          from false h = h

  group-short : (K L : List ℕ) (G : List Aggregation) (x : Bag) (e : Env) → is_subset K L ≡ true → are_apart stored G ≡ true → AreShortIn L (x e) → AreShortIn (rising (K ++ aggregate_columns G)) (group K (with_aggregates G) x e)
  group-short [] L G x e within_ apart all = (added-short [] G (x e) e apart (λ c in_ is. absurd (false≢true in_)), tt)
  group-short (k ∷ K) L G x e within_ apart all =
      let keys : List ℕ = k ∷ K in
      all_map (IsShortIn L) (IsShortIn (rising (keys ++ aggregate_columns G))) (λ r. with_aggregates G (filter (same_on keys r) (x e)) (lay (has keys) r e))
      (λ r h. added-short keys G (filter (same_on keys r) (x e)) (lay (has keys) r e) apart (laid-own keys r e (λ c in_. h c (subset-has keys L c within_ in_))))
      (distinct_on keys (x e)) (distinct-short L keys (x e) all)

-- ---- plans

-- an origin is that of an output: values of tables have 64 bits
pub record IsOriginOf (instances : List TableInstance) (o : Origin) (p : Output) : Type 0 where
  pub columns : o.columns ≡ p.columns
  pub short : o.reads ≡ true → (e : Env) → AreShortIn (is_table_column instances) p.columns (p.rows e)

module _ (instances : List TableInstance) (D : Tables) (tables : AreShortTables D) where
  abbrev T : ColumnSet
  T = is_table_column instances

  abbrev P : Plan → Type 0
  P plan = IsOriginOf instances (plan_origin instances plan) (plan_output instances D plan)

  abbrev Part : Type 0
  Part = (plan : Plan) × P plan

  abbrev origins_of : List Part → List Origin
  origins_of parts = map (plan_origin instances) (map (λ p. p.0) parts)

  abbrev outputs_of : List Part → List Output
  outputs_of parts = map (plan_output instances D) (map (λ p. p.0) parts)

  abbrev columns_of : List Part → List (List ℕ)
  columns_of parts = map (λ (x : Output). x.columns) (outputs_of parts)

  columns-same : (parts : List Part) → columns_of_all (origins_of parts) ≡ columns_of parts
  columns-same [] = refl
  columns-same (p ∷ parts) = two (λ K Ks. K ∷ Ks) p.1.columns (columns-same parts)

  first-short : (parts : List Part) → all_read (origins_of parts) ≡ true → (e : Env) → AreShortIn T (first_columns (columns_of parts)) (first (outputs_of parts) e)
  first-short [] reads e = tt
  first-short (p ∷ parts) reads e = p.1.short (and_parts _ _ reads).0 e

  second-short : (parts : List Part) → all_read (origins_of parts) ≡ true → (e : Env) → AreShortIn T (second_columns (columns_of parts)) (first (rest (outputs_of parts)) e)
  second-short [] reads e = tt
  second-short (p ∷ parts) reads e = first-short parts (and_parts _ _ reads).1 e

  -- what is named of the first input
  first-within : (parts : List Part) (K : List ℕ) → is_subset K (first_columns (columns_of_all (origins_of parts))) ≡ true → is_subset K (first_columns (columns_of parts)) ≡ true
  first-within parts K within_ = ap (λ Ks. is_subset K (first_columns Ks)) (sym (columns-same parts)) ∙ within_

  operator-short : (operator : Operator) (parts : List Part) → operator_reads instances operator (origins_of parts) ≡ true → all_read (origins_of parts) ≡ true → (e : Env)
      → AreShortIn T (operator_columns instances operator (columns_of parts)) (operator_rows instances D operator (outputs_of parts) e)
  operator-short (Scan o) parts here reads e = scan-short T (slice_get instances o) D e tables
  operator-short (IndexScan a C) parts here reads e = sorted-short T _ (keys_order (index_order instances a)) _ (all_filter _ _ _ (scan-short T (slice_get instances a.instance) D e tables))
  operator-short (Filter C) parts here reads e = all_filter _ _ _ (first-short parts reads e)
  operator-short (FilterSubqueries C) parts here reads e = all_filter _ _ _ (first-short parts reads e)
  operator-short (Projection K) parts here reads e = narrower T K (first_columns (columns_of parts)) (first (outputs_of parts) e) (first-within parts K here) (first-short parts reads e) e
  operator-short (JoinRows method j) parts here reads e =
      join-short T (first_columns (columns_of parts)) (second_columns (columns_of parts)) j (first (outputs_of parts)) (first (rest (outputs_of parts))) e (first-short parts reads e) (second-short parts reads e)
  operator-short (IndexJoin a j) parts here reads e =
      join-short T (first_columns (columns_of parts)) (accessed_columns instances a) j (first (outputs_of parts)) (accessed_rows instances D a) e (first-short parts reads e) (scan-short T (slice_get instances a.instance) D e tables)
  operator-short (GroupRows method K G) parts here reads e =
      let both = and_parts (is_subset K (first_columns (columns_of_all (origins_of parts)))) _ here in
      group-short T K (first_columns (columns_of parts)) G (first (outputs_of parts)) e (first-within parts K both.0) (and_parts _ _ both.1).1 (first-short parts reads e)
  operator-short (DistinctRows method) parts here reads e =
      let K : List ℕ = first_columns (columns_of parts) in
      all_map (IsShortIn T K) (IsShortIn T K) (λ r. lay (has K) r e) (λ r h. laid-own T K r e h) _ (distinct-short T K K (first (outputs_of parts) e) (first-short parts reads e))

  node-short : (node : Node) (parts : List Part) → node_reads instances node (origins_of parts) ≡ true → all_read (origins_of parts) ≡ true → (e : Env) → AreShortIn T (node_columns instances node (columns_of parts)) (node_rows instances D node (outputs_of parts) e)
  node-short (Implements line operator) parts here reads e = operator-short operator parts here reads e
  node-short (Sort keys) parts here reads e = sorted-short T _ (keys_order keys) _ (first-short parts reads e)

  step : (y : Plan-F Part) → P (roll-Plan (map-Plan Part Plan (λ p. p.0) y))
  unfolding plan_origin plan_output
  step y =
      let z : Plan-F Plan = map-Plan Part Plan (λ p. p.0) y in
      subst (λ o. IsOriginOf instances o (plan_output instances D (roll-Plan z))) (sym (fold-roll-Plan Origin (origin_layer instances) z))
      (subst (λ p. IsOriginOf instances (origin_layer instances (map-Plan Plan Origin (plan_origin instances) z)) p) (sym (fold-roll-Plan Output (output_layer instances D) z))
      (record {
        columns = ap (node_columns instances y.node) (columns-same y.inputs);
        short = λ is. let both = and_parts (node_reads instances y.node (origins_of y.inputs)) _ is in node-short y.node y.inputs both.0 both.1;
      }))

  pub origin-is : (plan : Plan) → P plan
  origin-is = ind-Plan P (λ x y is. subst (λ z. P (roll-Plan z)) is (step y))

  -- ---- what a group reads

  reads-short : (a : Aggregate) (K : List ℕ) (r : Env) → is_subset (aggregate_reads a) K ≡ true → list_all T (aggregate_reads a) ≡ true → IsShortIn T K r → MayRead a r
  reads-short by.CountRows K r within_ tables short = tt
  reads-short (by.Count k) K r within_ tables short = tt
  reads-short (by.Sum k) K r within_ tables short = short k (and_parts (has K k) true within_).0 (and_parts (T k) true tables).0
  reads-short (by.Min k) K r within_ tables short = tt
  reads-short (by.Max k) K r within_ tables short = tt

  row-readable : (K : List ℕ) (r : Env) → IsShortIn T K r → (G : List Aggregation) → read_among K G ≡ true → are_apart T G ≡ true → AllByRecursion (λ a. MayRead a.aggregate r) G
  row-readable K r short [] among apart = tt
  row-readable K r short (a ∷ G) among apart =
      let parts = and_parts (is_subset (aggregate_reads a.aggregate) K) _ among in
      let others = and_parts (is_apart T a) _ apart in
      (reads-short a.aggregate K r parts.0 (and_parts (list_all T (aggregate_reads a.aggregate)) _ others.0).0 short, row-readable K r short G parts.1 others.1)

  rows-readable : (K : List ℕ) (G : List Aggregation) → read_among K G ≡ true → are_apart T G ≡ true → (rows : List Env) → AreShortIn T K rows → AreReadable G rows
  rows-readable K G among apart rows all = go rows all
    where
      go : (rows : List Env) → AreShortIn T K rows → AreReadable G rows
      go [] all = tt
      go (r ∷ rows) all = (row-readable K r all.0 G among apart, go rows all.1)

  -- a group whose plan says so may read its input's rows
  pub group-readable : (method : GroupMethod) (K : List ℕ) (G : List Aggregation) (inputs : List Plan) → operator_reads instances (GroupRows method K G) (map (plan_origin instances) inputs) ≡ true → all_read (map (plan_origin instances) inputs) ≡ true
      → (e : Env) → AreReadable G (first (map (plan_output instances D) inputs) e)
  group-readable method K G [] here reads e = tt
  group-readable method K G (p ∷ inputs) here reads e =
      let parts = and_parts (read_among (plan_origin instances p).columns G) _ (and_parts (is_subset K (plan_origin instances p).columns) _ here).1 in
      let is = origin-is p in
      rows-readable (plan_output instances D p).columns G (ap (λ L. read_among L G) (sym is.columns) ∙ parts.0) parts.1 ((plan_output instances D p).rows e) (is.short (and_parts (plan_origin instances p).reads _ reads).0 e)
