-- Facts of groups.
use Rattle.std.proofs.Common.{◌≡◌, refl, ap, sym, ◌∙◌, subst, ℕ, ◌+◌, ◌≤◌, ◌==◌, Bool, true, false, not, ◌||◌, if◌then◌else◌, List, [], ◌∷◌, map, filter, length, arith}
use Rattle.std.specs.List.{list_all}
use Rattle.std.proofs.lemmas.Bool.{and_parts, or_left, or_right, eq-eqb, eqb-true, not-true}
use Rattle.values.specs.Truth.{is_null}
use Rattle.query.specs.declared.query.Aggregate.{Aggregate}
use Rattle.query.specs.declared.query.Aggregate.TheVariants as aggregate
use Rattle.query.specs.Aggregates.{aggregate_of}
use Rattle.algebra.specs.declared.expr.Aggregation.{Aggregation}
use Rattle.algebra.specs.Columns.{has, is_subset, is_same_set}
use Rattle.algebra.specs.Bags.{Env, Bag, lay, same_on, distinct_on, group}
use Rattle.algebra.specs.Expressions.{with_aggregates, aggregate_columns, aggregation_formed}
use Rattle.algebra.proofs.AggregateLists.{aggregates-outside}
use Rattle.laws.specs.Keys.{count, HasNoNull, IsStrongKey}
use Rattle.laws.proofs.KeyCounts.{count_map, count_same, count_distinct, count_once}
use Rattle.laws.proofs.Overlays.{in_subset}
use Rattle.props.specs.Given.{is_count, counts}
use Rattle.props.proofs.SoundFacts.{same_on-set, le_zero}

one-row : (b : Bool) → (if b then 1 else 0) + 0 ≤ 1
one-row true = omega arith
one-row false = omega arith

-- aggregates write new columns
new-columns : (own G : List Aggregation) (X : List ℕ) → list_all (aggregation_formed own X) G ≡ true → (c : ℕ) → has X c ≡ true → has (aggregate_columns G) c ≡ false
new-columns own [] X formed c in_ = refl
new-columns own (a ∷ G) X formed c in_ =
    let parts = and_parts (aggregation_formed own X a) (list_all (aggregation_formed own X) G) formed in
    by (a.column == c) refl (not-true (has X a.column) (and_parts _ (not (has X a.column)) parts.0).1) (new-columns own G X parts.1 c in_)
  where
    by : (b : Bool) → (a.column == c) ≡ b → has X a.column ≡ false → has (aggregate_columns G) c ≡ false → (b || has (aggregate_columns G) c) ≡ false
    by true is out later = absurd (cc (sym out ∙ ap (has X) (eqb-true a.column c is) ∙ in_))
    by false is out later = later

-- a count is never Null
count-of : (a : Aggregate) → is_count a ≡ true → (L : List Env) → is_null (aggregate_of a (length L) (λ k. map (λ s. s k) L)) ≡ false
count-of aggregate.CountRows is L = refl
count-of (aggregate.Count k) is L = refl
count-of (aggregate.Sum k) is L = cc
count-of (aggregate.Min k) is L = cc
count-of (aggregate.Max k) is L = cc

counted : (G : List Aggregation) (c : ℕ) → counts G c ≡ true → (L : List Env) (w : Env) → is_null (with_aggregates G L w c) ≡ false
counted [] c is L w = cc
counted (a ∷ G) c is L w = by (a.column == c) is (counted G c)
  where
    by : (b : Bool) → (if b then is_count a.aggregate else counts G c) ≡ true → (counts G c ≡ true → (L : List Env) (w : Env) → is_null (with_aggregates G L w c) ≡ false)
        → is_null (if b then aggregate_of a.aggregate (length L) (λ k. map (λ s. s k) L) else with_aggregates G L w c) ≡ false
    by true is later = count-of a.aggregate is L
    by false is later = later is L w

none-null : (c : ℕ) (g : Env → Env) → ((r : Env) → is_null (g r c) ≡ false) → (xs : List Env) → count (λ r. is_null (r c)) (map g xs) ≡ 0
none-null c g full [] = refl
none-null c g full (r ∷ xs) = ap (λ b. (if b then 1 else 0) + count (λ r. is_null (r c)) (map g xs)) (full r) ∙ (let later : count (λ r. is_null (r c)) (map g xs) ≡ 0 = none-null c g full xs in omega (arith, later))

agree-row : (N : List ℕ) (r s w : Env) → ((c : ℕ) → has N c ≡ true → w c ≡ s c) → same_on N r w ≡ same_on N r s
agree-row [] r s w reads = refl
agree-row (k ∷ N) r s w reads = rw (reads k (or_left (k == k) (has N k) (eq-eqb k k refl)), agree-row N r s w (λ c in_. reads c (or_right (k == c) (has N c) in_))) refl

module _ (own G : List Aggregation) (X : List ℕ) (formed : list_all (aggregation_formed own X) G ≡ true) (x : Bag) where
  module _ (k : ℕ) (L : List ℕ) (within : is_subset (k ∷ L) X ≡ true) (e : Env) where
    abbrev row : Env → Env
    row r = with_aggregates G (filter (same_on (k ∷ L) r) (x e)) (lay (has (k ∷ L)) r e)

    -- a key column is read as in a row of the group
    key-read : (r : Env) (c : ℕ) → has (k ∷ L) c ≡ true → row r c ≡ r c
    key-read r c in_ = aggregates-outside G _ (lay (has (k ∷ L)) r e) c (new-columns own G X formed c (in_subset (k ∷ L) X within c in_)) ∙ (rw in_ refl)

  pub group-key : (L N : List ℕ) → is_subset L X ≡ true → is_same_set N L ≡ true → IsStrongKey N (group L (with_aggregates G) x)
  group-key [] N within is e r = one-row _
  group-key (k ∷ L) N within is e r = subst (λ n. n ≤ 1)
      (sym (count_map (same_on N r) (row k L within e) (distinct_on (k ∷ L) (x e)) ∙ count_same _ _ (λ s. same_on-set N (k ∷ L) is r (row k L within e s) ∙ agree-row (k ∷ L) r s _ (key-read k L within e s)) (distinct_on (k ∷ L) (x e))))
      (count_once (k ∷ L) r (x e))

  pub group-not-null : (L : List ℕ) (c : ℕ) → is_subset L X ≡ true → has L c ≡ true → HasNoNull c x → HasNoNull c (group L (with_aggregates G) x)
  group-not-null [] c within in_ full e = cc
  group-not-null (k ∷ L) c within in_ full e =
      count_map (λ r. is_null (r c)) (row k L within e) (distinct_on (k ∷ L) (x e)) ∙ count_same _ _ (λ s. ap is_null (key-read k L within e s c in_)) (distinct_on (k ∷ L) (x e))
      ∙ le_zero (count_distinct (λ r. is_null (r c)) (k ∷ L) (x e)) (full e)

  pub group-counts : (L : List ℕ) (c : ℕ) → counts G c ≡ true → HasNoNull c (group L (with_aggregates G) x)
  group-counts [] c is e = ap (λ b. (if b then 1 else 0) + 0) (counted G c is (x e) e)
  group-counts (k ∷ L) c is e = none-null c _ (λ r. counted G c is (filter (same_on (k ∷ L) r) (x e)) (lay (has (k ∷ L)) r e)) (distinct_on (k ∷ L) (x e))
