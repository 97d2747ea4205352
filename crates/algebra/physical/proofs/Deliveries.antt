-- Each plan's rows stand in the order that it delivers.
use Rattle.std.proofs.Common.{◌≡◌, refl, ap, sym, ◌∙◌, subst, inl, inr, ℕ, Bool, true, false, not, ◌||◌, ◌==◌, filter, if◌then◌else◌, List, [], ◌∷◌, ◌++◌, map}
use Rattle.std.specs.declared.cmp.Ordering.{Ordering}
use Rattle.std.specs.Ordering.{is_gt, flip_args, ordering_then}
use Rattle.std.specs.List.{AllByRecursion, list_all}
use Rattle.std.proofs.lemmas.Bool.{cond-true, not-true, and_parts, and_from, or_cases, eqb-true}
use Rattle.values.specs.declared.value.Value.{Value}
use Rattle.values.specs.Order.{order}
use Rattle.values.proofs.Orders.{not_gt-then}
use Rattle.query.specs.declared.query.TableInstance.{TableInstance}
use Rattle.query.specs.Rows.{Tables}
use Rattle.query.specs.Meaning.{or_else_row}
use Rattle.algebra.specs.Columns.{ColumnSet, has, rising, are_disjoint}
use Rattle.algebra.specs.Bags.{Env, Bag, Test, lay, nulls, select, matches, join, left_join, same_on, distinct_on, group}
use Rattle.algebra.specs.Conditions.{holds}
use Rattle.algebra.specs.Expressions.{with_aggregates, aggregate_columns}
use Rattle.algebra.specs.declared.expr.Aggregation.{Aggregation}
use Rattle.algebra.proofs.Sets.{has-rising}
use Rattle.algebra.proofs.Puts.{among-append}
use Rattle.values.proofs.Each.{all_filter}
use Rattle.algebra.proofs.Lists.{two, all-map, all-each}
use Rattle.physical.specs.declared.plan.Matching.{Matching}
use Rattle.physical.specs.declared.plan.Matching.TheVariants.{Inner, Left, Semi, Anti}
use Rattle.physical.specs.declared.plan.OrderKey.{OrderKey}
use Rattle.physical.specs.declared.plan.Operator.{Operator}
use Rattle.physical.specs.declared.plan.GroupMethod.{GroupMethod}
use Rattle.physical.specs.declared.plan.GroupMethod.TheVariants.{Hash, Sorted}
use Rattle.physical.specs.declared.plan.Operator.TheVariants.{Scan, IndexScan, Filter, FilterSubqueries, Projection, JoinRows, IndexJoin, GroupRows, DistinctRows}
use Rattle.physical.specs.declared.plan.Node.{Node}
use Rattle.physical.specs.declared.plan.Node.TheVariants.{Implements, Sort}
use Rattle.physical.specs.declared.plan.Plan.{Plan, roll-Plan, fold-roll-Plan, ind-Plan, map-Plan}
use Rattle.physical.specs.declared.plan.Plan.TheOpen.{Plan-F}
use Rattle.physical.specs.Indexes.{accessed_columns, accessed_rows, index_order}
use Rattle.physical.specs.Sorts.{key_order, keys_order}
use Rattle.physical.specs.Outputs.{Output, operator_columns, operator_rows, node_rows, output_layer, plan_output, output_rows, first, rest, no_classes, is_match, join_columns, join_rows, first_columns, second_columns, node_columns}
use Rattle.physical.specs.Orders.{IsOrdered, front, first_order, operator_order, node_order, order_layer, plan_order, are_columns, join_stands, operator_stands, node_stands, Shape, shape_layer, plan_shape, PlansDeliver}
use Rattle.physical.proofs.Sorting.{Ascends, ascends-sorted}
use Rattle.physical.proofs.SortedRows.{keys_total}
use Rattle.physical.proofs.OrderedLists.{Alike, ascends-any, ascends-map, ascends-weaker, ascends-filter, ascends-distinct_on, ascends-laid_out}

ordered : (keys : List OrderKey) (rows : List Env) → Ascends (keys_order keys) rows → IsOrdered keys rows
ordered keys [] up = tt
ordered keys (a ∷ []) up = tt
ordered keys (a ∷ b ∷ rows) up = (up.0.0, ordered keys (b ∷ rows) up.1)

-- ---- the front of an order

-- rows in an order are in each front of it
front-weaker : (K : ColumnSet) (keys : List OrderKey) (a b : Env) → is_gt (keys_order keys a b) ≡ false → is_gt (keys_order (front K keys) a b) ≡ false
front-weaker K [] a b h = h
front-weaker K (k ∷ keys) a b h = by (K k.column) (not_gt-then (key_order k a b) (keys_order keys a b) (keys_order (front K keys) a b) (front-weaker K keys a b) h)
  where
    by : (p : Bool) → is_gt (keys_order (k ∷ front K keys) a b) ≡ false → is_gt (keys_order (if p then k ∷ front K keys else []) a b) ≡ false
    by true later = later
    by false later = refl

-- rows that agree in the columns are alike in each front of the columns
front-alike : (K : ColumnSet) (t r : Env) → ((c : ℕ) → K c ≡ true → t c ≡ r c) → (keys : List OrderKey) → Alike (keys_order (front K keys)) t r
front-alike K t r agree [] = record { before = λ z. refl; behind = λ z. refl }
front-alike K t r agree (k ∷ keys) = by (K k.column) (agree k.column) (front-alike K t r agree keys)
  where
    by : (p : Bool) → (p ≡ true → t k.column ≡ r k.column) → Alike (keys_order (front K keys)) t r → Alike (keys_order (if p then k ∷ front K keys else [])) t r
    by true same later = record {
      before = λ z. two ordering_then (ap (λ v. (if k.descending then flip_args order else order) v (z k.column)) (same refl)) (later.before z);
      behind = λ z. two ordering_then (ap (λ v. (if k.descending then flip_args order else order) (z k.column) v) (same refl)) (later.behind z);
    }
    by false same later = record { before = λ z. refl; behind = λ z. refl }

lay-on : (K : ColumnSet) (r e : Env) (c : ℕ) → K c ≡ true → lay K r e c ≡ r c
lay-on K r e c h = cond-true (K c) (r c) (e c) h

lay-off : (K : ColumnSet) (r e : Env) (c : ℕ) → not (K c) ≡ true → lay K r e c ≡ e c
lay-off K r e c h = ap (λ b. if b then r c else e c) (not-true (K c) h)

-- ---- operators

front-all : (K : ColumnSet) (keys : List OrderKey) → list_all (λ k. K k.column) keys ≡ true → front K keys ≡ keys
front-all K [] all = refl
front-all K (k ∷ keys) all =
    let parts : (K k.column ≡ true) × (list_all (λ k. K k.column) keys ≡ true) = and_parts _ _ all in
    rw (parts.0, front-all K keys parts.1) refl

front-among : (K : ColumnSet) (keys : List OrderKey) → list_all (λ k. K k.column) (front K keys) ≡ true
front-among K [] = refl
front-among K (k ∷ keys) = by (K k.column) refl (front-among K keys)
  where
    by : (b : Bool) → K k.column ≡ b → list_all (λ k. K k.column) (front K keys) ≡ true → list_all (λ k. K k.column) (if b then k ∷ front K keys else []) ≡ true
    by true is later = and_from _ _ is later
    by false is later = refl

all-among : (K L : ColumnSet) → ((c : ℕ) → K c ≡ true → L c ≡ true) → (keys : List OrderKey) → list_all (λ k. K k.column) keys ≡ true → list_all (λ k. L k.column) keys ≡ true
all-among K L wider [] all = refl
all-among K L wider (k ∷ keys) all = let parts = and_parts _ _ all in and_from _ _ (wider k.column parts.0) (all-among K L wider keys parts.1)

-- a column of a list of which all pass
passes : (p : ℕ → Bool) (columns : List ℕ) (c : ℕ) → list_all p columns ≡ true → has columns c ≡ true → p c ≡ true
passes p [] c all in_ = cc
passes p (k ∷ columns) c all in_ =
    let parts = and_parts _ _ all in
    elim (or_cases (k == c) (has columns c) in_) [
      | inl is ↦ ap p (sym (eqb-true k c is)) ∙ parts.0
      | inr later ↦ passes p columns c parts.1 later
    ]

-- rows with some columns alone
ascends-projection : (K : ColumnSet) (keys : List OrderKey) (e : Env) (rows : List Env) → Ascends (keys_order keys) rows → Ascends (keys_order (front K keys)) (map (λ r. lay K r e) rows)
ascends-projection K keys e rows = ascends-map (keys_order keys) (keys_order (front K keys)) (λ r. lay K r e) (λ a b h.
    ap is_gt ((front-alike K (lay K a e) a (lay-on K a e) keys).before (lay K b e) ∙ (front-alike K (lay K b e) b (lay-on K b e) keys).behind a) ∙ front-weaker K keys a b h) rows

module _ (right : List ℕ) (keys : List OrderKey) where
  abbrev shown : ColumnSet
  shown c = not (has right c)

  abbrev left_order : Env → Env → Ordering
  left_order = keys_order (front shown keys)

  -- a left row's pair is like it in the columns that the right side doesn't hide
  pair-alike : (s r : Env) → Alike left_order (lay (has right) s r) r
  pair-alike s r = front-alike shown (lay (has right) s r) r (lay-off (has right) s r) keys

  matches-alike : (p : Test) (rows : List Env) (r : Env) → AllByRecursion (λ t. Alike left_order t r) (matches p (has right) rows r)
  matches-alike p rows r =
      all_filter _ p (map (λ s. lay (has right) s r) rows) (all-map (λ s. Alike left_order (lay (has right) s r) r) _ (λ s. lay (has right) s r) rows (λ s h. h) (all-each _ (λ s. pair-alike s r) rows))

  or_else-alike : (r : Env) (rows : List Env) → AllByRecursion (λ t. Alike left_order t r) rows → AllByRecursion (λ t. Alike left_order t r) (or_else_row (lay (has right) nulls r) rows)
  or_else-alike r [] all = (pair-alike nulls r, tt)
  or_else-alike r (t ∷ rows) all = all

  -- a join goes through its left side in order
  ascends-join : (p : Test) (a b : Bag) (e : Env) → Ascends (keys_order keys) (a e) → Ascends left_order (join p (has right) a b e)
  ascends-join p a b e up = ascends-laid_out left_order (keys_total (front shown keys)) (matches p (has right) (b e)) (matches-alike p (b e)) (a e) (ascends-weaker _ _ (front-weaker shown keys) (a e) up)

  ascends-left_join : (p : Test) (a b : Bag) (e : Env) → Ascends (keys_order keys) (a e) → Ascends left_order (left_join p (has right) a b e)
  ascends-left_join p a b e up =
      ascends-laid_out left_order (keys_total (front shown keys)) (λ r. or_else_row (lay (has right) nulls r) (matches p (has right) (b e) r)) (λ r. or_else-alike r _ (matches-alike p (b e) r)) (a e)
      (ascends-weaker _ _ (front-weaker shown keys) (a e) up)

-- a column that no aggregate has is that of the row
aggregates-off : (G : List Aggregation) (rows : List Env) (r : Env) (c : ℕ) → not (has (aggregate_columns G) c) ≡ true → with_aggregates G rows r c ≡ r c
aggregates-off [] rows r c off = refl
aggregates-off (a ∷ G) rows r c off = by (a.column == c) _ off (aggregates-off G rows r c)
  where
    by : (b : Bool) (v : Value) → not (b || has (aggregate_columns G) c) ≡ true → (not (has (aggregate_columns G) c) ≡ true → with_aggregates G rows r c ≡ r c)
        → (if b then v else with_aggregates G rows r c) ≡ r c
    by true v off later = cc
    by false v off later = later off

-- groups of rows in an order, by a front of it, as their keys are first seen
ascends-group : (K : List ℕ) (G : List Aggregation) (keys : List OrderKey) (x : Bag) (e : Env) → are_disjoint K (aggregate_columns G) ≡ true → Ascends (keys_order keys) (x e)
    → Ascends (keys_order (front (has K) keys)) (group K (with_aggregates G) x e)
ascends-group [] G keys x e apart up = (tt, tt)
ascends-group (k ∷ K) G keys x e apart up =
    let row : Env → Env = λ r. with_aggregates G (filter (same_on (k ∷ K) r) (x e)) (lay (has (k ∷ K)) r e) in
    let agree : (r : Env) (c : ℕ) → has (k ∷ K) c ≡ true → row r c ≡ r c = λ r c in_.
    aggregates-off G (filter (same_on (k ∷ K) r) (x e)) (lay (has (k ∷ K)) r e) c (passes (λ d. not (has (aggregate_columns G) d)) (k ∷ K) c apart in_) ∙ lay-on (has (k ∷ K)) r e c in_ in
    ascends-map (keys_order keys) (keys_order (front (has (k ∷ K)) keys)) row (λ a b h.
    ap is_gt ((front-alike (has (k ∷ K)) (row a) a (agree a) keys).before (row b) ∙ (front-alike (has (k ∷ K)) (row b) b (agree b) keys).behind a) ∙ front-weaker (has (k ∷ K)) keys a b h)
    (distinct_on (k ∷ K) (x e)) (ascends-distinct_on (keys_order keys) (k ∷ K) (x e) up)

-- ---- plans

-- rows stand in an order by columns of theirs
pub record AreInOrder (columns : List ℕ) (keys : List OrderKey) (rows : Bag) : Type 0 where
  pub among : are_columns columns keys ≡ true
  pub ascends : (e : Env) → Ascends (keys_order keys) (rows e)

-- a plan's shape is its output's, and its rows stand in its order
pub record Delivers (s : Shape) (order : List OrderKey) (p : Output) : Type 0 where
  pub columns : s.columns ≡ p.columns
  pub ordered : s.stands ≡ true → AreInOrder s.columns order p.rows

module _ (instances : List TableInstance) (D : Tables) where
  abbrev P : Plan → Type 0
  P plan = Delivers (plan_shape instances plan) (plan_order instances plan) (plan_output instances D plan)

  abbrev Part : Type 0
  Part = (plan : Plan) × P plan

  abbrev shapes_of : List Part → List Shape
  shapes_of parts = map (plan_shape instances) (map (λ p. p.0) parts)

  abbrev orders_of : List Part → List (List OrderKey)
  orders_of parts = map (plan_order instances) (map (λ p. p.0) parts)

  abbrev columns_of : List Part → List (List ℕ)
  columns_of parts = map (λ (x : Shape). x.columns) (shapes_of parts)

  abbrev all_stand : List Part → Bool
  all_stand parts = list_all (λ (x : Shape). x.stands) (shapes_of parts)

  abbrev outputs_of : List Part → List Output
  outputs_of parts = map (plan_output instances D) (map (λ p. p.0) parts)

  columns-same : (parts : List Part) → columns_of parts ≡ map (λ (x : Output). x.columns) (outputs_of parts)
  columns-same [] = refl
  columns-same (p ∷ parts) = two (λ K Ks. K ∷ Ks) p.1.columns (columns-same parts)

  first-in-order : (parts : List Part) → all_stand parts ≡ true → AreInOrder (first_columns (columns_of parts)) (first_order (orders_of parts)) (first (outputs_of parts))
  first-in-order [] all = record { among = refl; ascends = λ e. tt }
  first-in-order (p ∷ parts) all = p.1.ordered (and_parts _ _ all).0

  -- a join of the first input with rows that share no column with it, both of which it shows
  wide-in-order : (right : List ℕ) (rows : Bag) (parts : List Part) → are_disjoint (first_columns (columns_of parts)) right ≡ true → all_stand parts ≡ true
      → ((e : Env) → Ascends (keys_order (front (λ c. not (has right c)) (first_order (orders_of parts)))) (rows e)) → AreInOrder (rising (first_columns (columns_of parts) ++ right)) (first_order (orders_of parts)) rows
  wide-in-order right rows parts apart all up =
      let left : List ℕ = first_columns (columns_of parts) in
      let keys : List OrderKey = first_order (orders_of parts) in
      let input = first-in-order parts all in
      let shown : front (λ c. not (has right c)) keys ≡ keys = front-all (λ c. not (has right c)) keys (all-among (has left) (λ c. not (has right c)) (λ c in_. passes (λ c. not (has right c)) left c apart in_) keys input.among) in
      record {
        among = all-among (has left) (has (rising (left ++ right))) (λ c in_. has-rising c (left ++ right) ∙ among-append c left right ∙ rw in_ refl) keys input.among;
        ascends = λ e. subst (λ keys. Ascends (keys_order keys) (rows e)) shown (up e);
      }

  -- a join of the first input with rows of these columns
  join-in-order : (j : Matching) (right : List ℕ) (b : Bag) (parts : List Part) → join_stands j (first_columns (columns_of parts)) right ≡ true → all_stand parts ≡ true
      → AreInOrder (join_columns j (first_columns (columns_of parts)) right) (first_order (orders_of parts)) (join_rows j right (first (outputs_of parts)) b)
  join-in-order (Inner C) right b parts apart all = wide-in-order right _ parts apart all (λ e. ascends-join right (first_order (orders_of parts)) (is_match (Inner C)) (first (outputs_of parts)) b e ((first-in-order parts all).ascends e))
  join-in-order (Left C) right b parts apart all = wide-in-order right _ parts apart all (λ e. ascends-left_join right (first_order (orders_of parts)) (is_match (Left C)) (first (outputs_of parts)) b e ((first-in-order parts all).ascends e))
  join-in-order (Semi C) right b parts apart all =
      let input = first-in-order parts all in
      record { among = input.among; ascends = λ e. ascends-filter _ _ _ (input.ascends e) }
  join-in-order (Anti S M) right b parts apart all =
      let input = first-in-order parts all in
      record { among = input.among; ascends = λ e. ascends-filter _ _ _ (input.ascends e) }

  -- so are two inputs
  inputs-in-order : (j : Matching) (parts : List Part) → join_stands j (first_columns (columns_of parts)) (second_columns (columns_of parts)) ≡ true → all_stand parts ≡ true
      → AreInOrder (join_columns j (first_columns (columns_of parts)) (second_columns (columns_of parts))) (first_order (orders_of parts)) (join_rows j (second_columns (map (λ (x : Output). x.columns) (outputs_of parts))) (first (outputs_of parts)) (first (rest (outputs_of parts))))
  inputs-in-order j parts stands all =
      let left : List ℕ = first_columns (columns_of parts) in
      let right : List ℕ = second_columns (map (λ (x : Output). x.columns) (outputs_of parts)) in
      subst (λ Ks. join_stands j left (second_columns Ks) ≡ true → AreInOrder (join_columns j left (second_columns Ks)) (first_order (orders_of parts)) (join_rows j right (first (outputs_of parts)) (first (rest (outputs_of parts)))))
      (sym (columns-same parts)) (λ apart. join-in-order j right (first (rest (outputs_of parts))) parts apart all) stands

  group-in-order : (K : List ℕ) (G : List Aggregation) (parts : List Part) → are_disjoint K (aggregate_columns G) ≡ true → all_stand parts ≡ true
      → AreInOrder (rising (K ++ aggregate_columns G)) (front (has K) (first_order (orders_of parts))) (operator_rows instances D (GroupRows Sorted K G) (outputs_of parts))
  group-in-order K G parts apart all =
      let keys : List OrderKey = first_order (orders_of parts) in
      record {
        among = all-among (has K) (has (rising (K ++ aggregate_columns G))) (λ c in_. has-rising c (K ++ aggregate_columns G) ∙ among-append c K (aggregate_columns G) ∙ rw in_ refl) (front (has K) keys) (front-among (has K) keys);
        ascends = λ e. ascends-group K G keys (first (outputs_of parts)) e apart ((first-in-order parts all).ascends e);
      }

  distinct-in-order : (method : GroupMethod) (parts : List Part) → all_stand parts ≡ true → AreInOrder (first_columns (columns_of parts)) (first_order (orders_of parts)) (operator_rows instances D (DistinctRows method) (outputs_of parts))
  distinct-in-order method parts all =
      let K : List ℕ = first_columns (map (λ (x : Output). x.columns) (outputs_of parts)) in
      let keys : List OrderKey = first_order (orders_of parts) in
      let input = first-in-order parts all in
      let among : are_columns K keys ≡ true = subst (λ Ks. are_columns (first_columns Ks) keys ≡ true) (columns-same parts) input.among in
      record {
        among = input.among;
        ascends = λ e. subst (λ keys. Ascends (keys_order keys) (operator_rows instances D (DistinctRows method) (outputs_of parts) e)) (front-all (has K) keys among)
            (ascends-projection (has K) keys e (distinct_on K (first (outputs_of parts) e)) (ascends-distinct_on (keys_order keys) K (first (outputs_of parts) e) (input.ascends e)));
      }

  in-order : (operator : Operator) (parts : List Part) → operator_stands instances operator (columns_of parts) ≡ true → all_stand parts ≡ true
      → AreInOrder (operator_columns instances operator (columns_of parts)) (operator_order instances operator (orders_of parts)) (operator_rows instances D operator (outputs_of parts))
  in-order (Scan o) parts stands all = record { among = refl; ascends = λ e. ascends-any (keys_order []) (λ a b. refl) _ }
  in-order (IndexScan a C) parts stands all = record { among = stands; ascends = λ e. ascends-sorted (keys_order (index_order instances a)) (keys_total (index_order instances a)) (select (holds no_classes C) (accessed_rows instances D a) e) }
  in-order (Filter C) parts stands all =
      let input = first-in-order parts all in
      record { among = input.among; ascends = λ e. ascends-filter _ (holds no_classes C) _ (input.ascends e) }
  in-order (FilterSubqueries C) parts stands all =
      let input = first-in-order parts all in
      record { among = input.among; ascends = λ e. ascends-filter _ _ _ (input.ascends e) }
  in-order (Projection K) parts stands all = record {
    among = front-among (has K) (first_order (orders_of parts));
    ascends = λ e. ascends-projection (has K) _ e _ ((first-in-order parts all).ascends e);
  }
  in-order (JoinRows method j) parts stands all = inputs-in-order j parts stands all
  in-order (IndexJoin a j) parts stands all = join-in-order j (accessed_columns instances a) (accessed_rows instances D a) parts stands all
  in-order (GroupRows Sorted K G) parts stands all = group-in-order K G parts stands all
  in-order (GroupRows Hash K G) parts stands all = record { among = refl; ascends = λ e. ascends-any (keys_order []) (λ a b. refl) _ }
  in-order (DistinctRows method) parts stands all = distinct-in-order method parts all

  layer : (node : Node) (parts : List Part) → node_stands instances node (columns_of parts) ≡ true → all_stand parts ≡ true
      → AreInOrder (node_columns instances node (columns_of parts)) (node_order instances node (orders_of parts)) (node_rows instances D node (outputs_of parts))
  layer (Implements line operator) parts stands all = in-order operator parts stands all
  layer (Sort keys) parts stands all = record { among = stands; ascends = λ e. ascends-sorted (keys_order keys) (keys_total keys) (first (outputs_of parts) e) }

  step : (y : Plan-F Part) → P (roll-Plan (map-Plan Part Plan (λ p. p.0) y))
  unfolding plan_shape plan_order plan_output
  step y =
      let z : Plan-F Plan = map-Plan Part Plan (λ p. p.0) y in
      let plan : Plan = roll-Plan z in
      subst (λ s. Delivers s (plan_order instances plan) (plan_output instances D plan)) (sym (fold-roll-Plan Shape (shape_layer instances) z))
      (subst (λ o. Delivers (shape_layer instances (map-Plan Plan Shape (plan_shape instances) z)) o (plan_output instances D plan)) (sym (fold-roll-Plan (List OrderKey) (order_layer instances) z))
      (subst (λ p. Delivers (shape_layer instances (map-Plan Plan Shape (plan_shape instances) z)) (order_layer instances (map-Plan Plan (List OrderKey) (plan_order instances) z)) p) (sym (fold-roll-Plan Output (output_layer instances D) z))
      (record {
        columns = ap (node_columns instances y.node) (columns-same y.inputs);
        ordered = λ stands. let both = and_parts _ _ stands in layer y.node y.inputs both.0 both.1;
      })))

  pub delivers : (plan : Plan) → P plan
  delivers = ind-Plan P (λ x y is. subst (λ z. P (roll-Plan z)) is (step y))

pub plans_deliver : PlansDeliver
plans_deliver instances D plan e stands = ordered (plan_order instances plan) (output_rows instances D plan e) (((delivers instances D plan).ordered stands).ascends e)
