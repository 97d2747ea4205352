-- What each operator makes of rows reads what they read, and what the operator itself reads of them.
use Rattle.std.proofs.Common.{◌≡◌, refl, ap, sym, ◌∙◌, subst, inl, inr, ℕ, ◌==◌, Bool, true, false, not, ◌||◌, if◌then◌else◌, List, [], ◌∷◌, ◌++◌, map, flat_map}
use Rattle.std.specs.List.{list_all}
use Rattle.std.specs.Ordering.{ordering_then}
use Rattle.std.proofs.lemmas.Bool.{or_left, or_right, cases_Bool, eq-eqb, and_from}
use mathlib.Core.List.{map-map}
use Rattle.values.specs.Order.{directed}
use Rattle.algebra.specs.declared.condition.Condition.{Condition}
use Rattle.algebra.specs.declared.expr.Aggregation.{Aggregation}
use Rattle.algebra.specs.Columns.{ColumnSet, has, is_subset, rising}
use Rattle.algebra.specs.Bags.{Env, Bag, Test, lay, select, keep, distinct, group}
use Rattle.algebra.specs.Conditions.{holds}
use Rattle.algebra.specs.Expressions.{aggregate_reads, aggregate_columns, mentioned, with_aggregates}
use Rattle.algebra.proofs.Lists.{two}
use Rattle.algebra.proofs.Puts.{among-append}
use Rattle.algebra.proofs.Sets.{has-rising}
use Rattle.physical.specs.declared.plan.Matching.{Matching}
use Rattle.physical.specs.declared.plan.Matching.TheVariants.{Inner, Left, Semi, Anti}
use Rattle.physical.specs.declared.plan.OrderKey.{OrderKey}
use Rattle.physical.specs.Outputs.{Output, is_match, join_columns, join_rows, subquery_rows}
use Rattle.physical.specs.Sorts.{sorted, keys_order}
use Rattle.physical.proofs.Sorting.{map-sorted}
use Rattle.laws.specs.Fitting.{SameIn, Fits}
use Rattle.laws.proofs.Overlays.{pointwise, by_rows, mapped, more_free, lay-over}
use Rattle.laws.proofs.Mentions.{holds-reads, unsure-reads}
use Rattle.laws.proofs.Operators.{Agrees, select-fits, join-rows, left_join-rows, matched-rows, keep-fits, distinct-fits}
use Rattle.laws.proofs.Groups.{reads_among, group_columns, group-fits}
use Rattle.laws.proofs.Expressions.{with-columns, has-both}
use Rattle.plan_reads.specs.declared.readings.Reading.{Reading}
use Rattle.plan_reads.specs.Readings.{IsReading, AreReadings, also_reading, beside, class_columns, class_free, matching_conditions}
use Rattle.plan_reads.proofs.KnownReadings.{also-still, also-known, also-free, also-lacking, beside-left, beside-right, given_classes, classes-fit}

-- ---- tests

-- what goes by columns each of which is one of the rows' or free
abbrev pub Known : ColumnSet → ColumnSet → ColumnSet → Type 0
Known M K F = (k : ℕ) → M k ≡ true → K k ≡ false → F k ≡ true

-- is the same at a row over environments that read the same in the free ones
same-laid : (M K F : ColumnSet) → Known M K F → (e d : Env) → SameIn F e d → (r : Env) → SameIn M (lay K r d) (lay K r e)
same-laid M K F known e d on r c in_ = elim (cases_Bool (K c)) [
  | inl there ↦ rw there refl
  | inr out ↦ rw out (sym (on c (known c in_ out)))
]

-- a test that goes by the columns
abbrev pub GoesBy : ColumnSet → Test → Type 0
GoesBy M p = (r s : Env) → SameIn M r s → p r ≡ p s

agrees : (M K F : ColumnSet) (p : Test) → Known M K F → GoesBy M p → Agrees K F p
agrees M K F p known by e d on r = by _ _ (same-laid M K F known e d on r)

pub filtered-reads : (K : List ℕ) (x : Bag) (r : Reading) (read : List ℕ) (classes : List ℕ) (all : List Output) (readings : List Reading) (C : List Condition)
    → ((k : ℕ) → has read k ≡ mentioned (class_columns classes readings) (class_free classes readings) C k) → IsReading K x r → AreReadings all readings
    → IsReading K (select (holds (subquery_rows classes all) C) x) (also_reading r read)
filtered-reads K x r read classes all readings C gathers is are =
    let W = given_classes classes all readings in
    let M : ColumnSet = mentioned (class_columns classes readings) (class_free classes readings) C in
    let F : ColumnSet = has (also_reading r read).free in
    record {
      columns_are = is.columns_are;
      rows_fit = select-fits (has K) F (holds (subquery_rows classes all) C) x
          (agrees M (has K) F (holds (subquery_rows classes all) C) (λ k in_ out. also-known K x r read is k (gathers k ∙ in_) out) (holds-reads W (classes-fit classes all readings are) C))
          (also-still K x r read is).rows_fit;
    }

-- ---- rows with further columns of the environment

-- where environments read the same in further columns, these may count as the rows' own
widened : (K F : List ℕ) (x : Bag) → Fits (has K) (has F) x → Fits (has (K ++ F)) (has F) x
widened K F x fits e d on =
    by_rows (has K) (has F) x fits e d on (λ L. L) (map (λ r. lay (has (K ++ F)) r d))
    (mapped (λ r. lay (has K) r d) (λ r. lay (has (K ++ F)) r d) (λ r. lay (has K) r e) (λ r. pointwise (λ c.
    by (has K c) (has F c) (has (K ++ F) c) (among-append c K F) (r c) (e c) (d c) (on c))))
  where
    by : {X : Type 0} (k f b : Bool) → b ≡ (k || f) → (r e d : X) → (f ≡ true → e ≡ d) → (if k then r else d) ≡ (if b then (if k then r else e) else d)
    by true f b is r e d on = rw is refl
    by false true b is r e d on = rw is (sym (on refl))
    by false false b is r e d on = rw is refl

-- each column that is read is among them
among-widened : (K F : List ℕ) (M : ColumnSet) → Known M (has K) (has F) → (k : ℕ) → M k ≡ true → has (K ++ F) k ≡ true
among-widened K F M known k in_ = among-append k K F ∙ elim (cases_Bool (has K k)) [
  | inl there ↦ or_left _ _ there
  | inr out ↦ or_right (has K k) _ (known k in_ out)
]

pub projected-reads : (K : List ℕ) (x : Bag) (r : Reading) (columns : List ℕ) → IsReading K x r → IsReading columns (keep (has columns) x) (record { columns = columns; free = (also_reading r columns).free })
projected-reads K x r columns is =
    let F : List ℕ = (also_reading r columns).free in
    record {
      columns_are = refl;
      rows_fit = keep-fits (has columns) (has (K ++ F)) (has F) x (among-widened K F (has columns) (also-known K x r columns is)) (widened K F x (also-still K x r columns is).rows_fit);
    }

-- ---- groups

aggregates-among : (X : List ℕ) (G : List Aggregation) → ((k : ℕ) → has (flat_map (λ a. aggregate_reads a.aggregate) G) k ≡ true → has X k ≡ true) → list_all (reads_among X) G ≡ true
aggregates-among X [] sub = refl
aggregates-among X (a ∷ G) sub = and_from _ _
    (each (aggregate_reads a.aggregate) (λ k in_. sub k (among-append k (aggregate_reads a.aggregate) _ ∙ or_left _ _ in_)))
    (aggregates-among X G (λ k in_. sub k (among-append k (aggregate_reads a.aggregate) _ ∙ or_right (has (aggregate_reads a.aggregate) k) _ in_)))
  where
    each : (L : List ℕ) → ((k : ℕ) → has L k ≡ true → has X k ≡ true) → is_subset L X ≡ true
    each [] sub = refl
    each (k ∷ L) sub = and_from _ _ (sub k (or_left (k == k) (has L k) (eq-eqb k k refl))) (each L (λ c in_. sub c (or_right (k == c) (has L c) in_)))

pub grouped-reads : (K : List ℕ) (x : Bag) (r : Reading) (keys : List ℕ) (G : List Aggregation) → IsReading K x r
    → IsReading (rising (keys ++ aggregate_columns G)) (group keys (with_aggregates G) x) (record { columns = rising (keys ++ aggregate_columns G); free = (also_reading r (keys ++ flat_map (λ a. aggregate_reads a.aggregate) G)).free })
grouped-reads K x r keys G is =
    let aggregated : List ℕ = flat_map (λ a. aggregate_reads a.aggregate) G in
    let read : List ℕ = keys ++ aggregated in
    let F : List ℕ = (also_reading r read).free in
    let among = among-widened K F (has read) (also-known K x r read is) in
    record {
      columns_are = refl;
      rows_fit = with-columns _ (group_columns keys G) (has F) (group keys (with_aggregates G) x) (has-both keys (aggregate_columns G))
          (group-fits keys (K ++ F) G (has F) x (λ k in_. among k (among-append k keys aggregated ∙ or_left _ _ in_))
          (aggregates-among (K ++ F) G (λ k in_. among k (among-append k keys aggregated ∙ or_right (has keys k) _ in_)))
          (widened K F x (also-still K x r read is).rows_fit));
    }

pub distinct-reads : (K : List ℕ) (x : Bag) (r : Reading) → IsReading K x r → IsReading K (distinct K x) r
distinct-reads K x r is = record { columns_are = is.columns_are; rows_fit = distinct-fits K (has r.free) x is.rows_fit }

-- ---- sorts

-- rows that read the same in the keys' columns compare alike
keys-alike : (keys : List OrderKey) (a b s t : Env) → SameIn (has (map (λ k. k.column) keys)) a s → SameIn (has (map (λ k. k.column) keys)) b t → keys_order keys a b ≡ keys_order keys s t
keys-alike [] a b s t left right = refl
keys-alike (k ∷ keys) a b s t left right =
    let here : (k.column == k.column) ≡ true = eq-eqb k.column k.column refl in
    two ordering_then
    (two (directed k.descending) (left k.column (or_left _ _ here)) (right k.column (or_left _ _ here)))
    (keys-alike keys a b s t (λ c in_. left c (or_right (k.column == c) _ in_)) (λ c in_. right c (or_right (k.column == c) _ in_)))

sort-fits : (K F : ColumnSet) (keys : List OrderKey) (x : Bag) → Known (has (map (λ k. k.column) keys)) K F → Fits K F x → Fits K F (λ e. sorted (keys_order keys) (x e))
sort-fits K F keys x known fits e d on =
    by_rows K F x fits e d on (sorted (keys_order keys)) (λ L. map (λ r. lay K r d) (sorted (keys_order keys) L)) (λ L.
    sym (map-sorted over_d (keys_order keys) L)
    ∙ (λ i. map over_d (sorted (λ a b. alike a b i) L))
    ∙ (λ i. map (λ r. over r i) (sorted (λ a b. keys_order keys (over_e a) (over_e b)) L))
    ∙ sym (map-map over_d over_e (sorted (λ a b. keys_order keys (over_e a) (over_e b)) L))
    ∙ ap (map over_d) (map-sorted over_e (keys_order keys) L))
  where
    over_d : Env → Env
    over_d r = lay K r d

    over_e : Env → Env
    over_e r = lay K r e

    over : (r : Env) → over_d r ≡ over_d (over_e r)
    over r = sym (lay-over K r e d)

    alike : (a b : Env) → keys_order keys (over_d a) (over_d b) ≡ keys_order keys (over_e a) (over_e b)
    alike a b = keys-alike keys (over_d a) (over_d b) (over_e a) (over_e b) (same-laid (has (map (λ k. k.column) keys)) K F known e d on a) (same-laid (has (map (λ k. k.column) keys)) K F known e d on b)

pub sorted-reads : (K : List ℕ) (x : Bag) (r : Reading) (keys : List OrderKey) → IsReading K x r → IsReading K (λ e. sorted (keys_order keys) (x e)) (also_reading r (map (λ k. k.column) keys))
sorted-reads K x r keys is =
    let read : List ℕ = map (λ k. k.column) keys in
    record { columns_are = is.columns_are; rows_fit = sort-fits (has K) (has (also_reading r read).free) keys x (also-known K x r read is) (also-still K x r read is).rows_fit }

-- ---- joins

-- a join's test goes by what its conditions mention
match-goes : (j : Matching) → GoesBy (mentioned (class_columns [] []) (class_free [] []) (matching_conditions j)) (is_match j)
match-goes (Inner C) = holds-reads (given_classes [] [] []) (classes-fit [] [] [] tt) C
match-goes (Left C) = holds-reads (given_classes [] [] []) (classes-fit [] [] [] tt) C
match-goes (Semi C) = holds-reads (given_classes [] [] []) (classes-fit [] [] [] tt) C
match-goes (Anti S M) = unsure-reads (given_classes [] [] []) (classes-fit [] [] [] tt) S M

module _ (K L F : List ℕ) (a b : Bag) (left : Fits (has K) (has F) a) (right : Fits (has L) (has F) b) where
  abbrev both : ColumnSet
  both c = has K c || has L c

  pub join-fits : (j : Matching) → Agrees both (has F) (is_match j) → Fits (has (join_columns j K L)) (has F) (join_rows j L a b)
  join-fits (Inner C) agree = with-columns _ both (has F) (join_rows (Inner C) L a b) (has-both K L) (join-rows (has K) (has L) (has F) (is_match (Inner C)) a b agree left right)
  join-fits (Left C) agree = with-columns _ both (has F) (join_rows (Left C) L a b) (has-both K L) (left_join-rows (has K) (has L) (has F) (is_match (Left C)) a b agree left right)
  join-fits (Semi C) agree = λ e d on. matched-rows (has K) (has L) (has F) (is_match (Semi C)) a b agree left right e d on (λ t. t)
  join-fits (Anti S M) agree = λ e d on. matched-rows (has K) (has L) (has F) (is_match (Anti S M)) a b agree left right e d on not

-- the free columns of a join
abbrev pub join_free : Reading → Reading → List ℕ → List ℕ
join_free r s read = (also_reading (beside r s) read).free

joined-fits : (K L : List ℕ) (a b : Bag) (r s : Reading) (read : List ℕ) (j : Matching)
    → ((k : ℕ) → has read k ≡ mentioned (class_columns [] []) (class_free [] []) (matching_conditions j) k) → IsReading K a r → IsReading L b s
    → Fits (has (join_columns j K L)) (has (join_free r s read)) (join_rows j L a b)
joined-fits K L a b r s read j gathers left right =
    join-fits K L (join_free r s read) a b
    (more_free (has K) (has r.free) (has (join_free r s read)) a (λ k in_. wider k (beside-left r s k in_)) left.rows_fit)
    (more_free (has L) (has s.free) (has (join_free r s read)) b (λ k in_. wider k (beside-right r s k in_)) right.rows_fit) j
    (agrees (mentioned (class_columns [] []) (class_free [] []) (matching_conditions j)) (λ c. has K c || has L c) (has (join_free r s read)) (is_match j) known (match-goes j))
  where
    pair : Reading
    pair = beside r s

    wider : (k : ℕ) → has pair.free k ≡ true → has (join_free r s read) k ≡ true
    wider k in_ = also-free pair read k in_

    known : Known (mentioned (class_columns [] []) (class_free [] []) (matching_conditions j)) (λ c. has K c || has L c) (has (join_free r s read))
    known k in_ out = also-lacking pair read k (gathers k ∙ in_) (has-rising k _ ∙ among-append k r.columns s.columns ∙ two (λ A B. has A k || has B k) left.columns_are right.columns_are ∙ out)

pub joined-reads : (K L : List ℕ) (a b : Bag) (r s pair pairs : Reading) (columns read slice : List ℕ) (j : Matching)
    → columns ≡ join_columns j r.columns s.columns → pair ≡ beside r s → slice ≡ read → pairs ≡ also_reading pair slice
    → ((k : ℕ) → has read k ≡ mentioned (class_columns [] []) (class_free [] []) (matching_conditions j) k) → IsReading K a r → IsReading L b s
    → IsReading (join_columns j K L) (join_rows j L a b) (record { columns = columns; free = pairs.free })
joined-reads K L a b r s pair pairs columns read slice j shown beside_is slice_is pairs_are gathers left right =
    let free : pairs.free ≡ join_free r s read = ap (λ p. p.free) (pairs_are ∙ two also_reading beside_is slice_is) in
    record {
      columns_are = shown ∙ two (join_columns j) left.columns_are right.columns_are;
      rows_fit = subst (λ F. Fits (has (join_columns j K L)) (has F) (join_rows j L a b)) (sym free) (joined-fits K L a b r s read j gathers left right);
    }
