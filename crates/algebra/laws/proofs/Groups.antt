-- Groups of rows that fit.
use Rattle.std.proofs.Common.{◌≡◌, refl, ap, sym, ◌∙◌, ℕ, Bool, true, false, not, ◌||◌, ◌==◌, if◌then◌else◌, List, [], ◌∷◌, map, filter, length}
use Rattle.std.specs.List.{list_all}
use Rattle.std.proofs.lemmas.Bool.{and_parts, and_from}
use Rattle.std.proofs.lemmas.List.{length-map}
use mathlib.Core.List.{map-map}
use Rattle.values.specs.declared.value.Value.{Value}
use Rattle.query.specs.declared.query.Aggregate.{Aggregate}
use Rattle.query.specs.declared.query.Aggregate.TheVariants as by
use Rattle.query.specs.Aggregates.{aggregate_of}
use Rattle.algebra.specs.declared.expr.Aggregation.{Aggregation}
use Rattle.algebra.specs.Columns.{ColumnSet, has, is_subset}
use Rattle.algebra.specs.Bags.{Env, Bag, lay, same_on, distinct_on, group}
use Rattle.algebra.specs.Expressions.{with_aggregates, aggregate_reads, aggregate_columns, aggregation_formed}
use Rattle.algebra.proofs.Lists.{two}
use Rattle.laws.specs.Fitting.{Fits}
use Rattle.laws.proofs.Overlays.{pointwise, lay-within, mapped}
use Rattle.laws.proofs.Operators.{same_on-laid, filter-laid, distinct_on-laid}

-- an aggregate of rows
abbrev aggregate_on : Aggregate → List Env → Value
aggregate_on a L = aggregate_of a (length L) (λ k. map (λ s. s k) L)

-- the aggregate reads these columns alone
abbrev pub reads_among : List ℕ → Aggregation → Bool
reads_among X a = is_subset (aggregate_reads a.aggregate) X

-- the columns of a group's rows
abbrev pub group_columns : List ℕ → List Aggregation → ColumnSet
group_columns K G c = has K c || has (aggregate_columns G) c

-- outside the columns of a group's row its environment stands
group-laid : (K : List ℕ) (G : List Aggregation) (L : List Env) (r e d : Env) → lay (group_columns K G) (with_aggregates G L (lay (has K) r e)) d ≡ with_aggregates G L (lay (has K) r d)
group-laid K G L r e d = pointwise (λ c. at G c)
  where
    at : (G : List Aggregation) (c : ℕ) → lay (group_columns K G) (with_aggregates G L (lay (has K) r e)) d c ≡ with_aggregates G L (lay (has K) r d) c
    at [] c = by (has K c) (r c) (e c) (d c)
      where
        by : (k : Bool) (u v w : Value) → (if k || false then (if k then u else v) else w) ≡ (if k then u else w)
        by true u v w = refl
        by false u v w = refl
    at (a ∷ G) c = by (a.column == c) (has K c) (has (aggregate_columns G) c) _ _ _ _ (at G c)
      where
        by : (b k g : Bool) (u v w z : Value) → (if k || g then v else w) ≡ z → (if k || (b || g) then (if b then u else v) else w) ≡ (if b then u else z)
        by true true g u v w z h = refl
        by true false g u v w z h = refl
        by false k g u v w z h = h

module _ (X : List ℕ) (d : Env) where
  abbrev laid : Env → Env
  laid r = lay (has X) r d

  values-laid : (k : ℕ) → has X k ≡ true → (L : List Env) → map (λ s. s k) (map laid L) ≡ map (λ s. s k) L
  values-laid k in_ [] = refl
  values-laid k in_ (r ∷ L) = two (λ v vs. v ∷ vs) (rw in_ refl) (values-laid k in_ L)

  aggregate-laid : (a : Aggregate) → is_subset (aggregate_reads a) X ≡ true → (L : List Env) → aggregate_on a (map laid L) ≡ aggregate_on a L
  aggregate-laid by.CountRows reads L = rw (length-map L laid) refl
  aggregate-laid (by.Count k) reads L = ap (λ vs. aggregate_of (by.Count k) 0 (λ c. vs)) (values-laid k (and_parts (has X k) true reads).0 L)
  aggregate-laid (by.Sum k) reads L = ap (λ vs. aggregate_of (by.Sum k) 0 (λ c. vs)) (values-laid k (and_parts (has X k) true reads).0 L)
  aggregate-laid (by.Min k) reads L = ap (λ vs. aggregate_of (by.Min k) 0 (λ c. vs)) (values-laid k (and_parts (has X k) true reads).0 L)
  aggregate-laid (by.Max k) reads L = ap (λ vs. aggregate_of (by.Max k) 0 (λ c. vs)) (values-laid k (and_parts (has X k) true reads).0 L)

  aggregates-laid : (G : List Aggregation) → list_all (reads_among X) G ≡ true → (L : List Env) (r : Env) → with_aggregates G (map laid L) r ≡ with_aggregates G L r
  aggregates-laid G reads L r = pointwise (λ c. at G reads c)
    where
      at : (G : List Aggregation) → list_all (reads_among X) G ≡ true → (c : ℕ) → with_aggregates G (map laid L) r c ≡ with_aggregates G L r c
      at [] reads c = refl
      at (a ∷ G) reads c =
          let parts = and_parts (reads_among X a) (list_all (reads_among X) G) reads in
          two (λ v w. if a.column == c then v else w) (aggregate-laid a.aggregate parts.0 L) (at G parts.1 c)

pub formed-reads : (own : List Aggregation) (X : List ℕ) (G : List Aggregation) → list_all (aggregation_formed own X) G ≡ true → list_all (reads_among X) G ≡ true
formed-reads own X [] formed = refl
formed-reads own X (a ∷ G) formed =
    let parts = and_parts (aggregation_formed own X a) (list_all (aggregation_formed own X) G) formed in
    and_from _ _ (and_parts _ _ (and_parts _ (not (has X a.column)) parts.0).0).1 (formed-reads own X G parts.1)

pub group-fits : (K X : List ℕ) (G : List Aggregation) (F : ColumnSet) (x : Bag) → ((c : ℕ) → has K c ≡ true → has X c ≡ true) → list_all (reads_among X) G ≡ true
    → Fits (has X) F x → Fits (group_columns K G) F (group K (with_aggregates G) x)
group-fits [] X G F x sub reads fits e d on =
    ap (λ t. t ∷ []) (ap (λ L. with_aggregates G L d) (fits e d on) ∙ aggregates-laid X d G reads (x e) d ∙ sym (group-laid [] G (x e) e e d))
group-fits (k ∷ K) X G F x sub reads fits e d on =
    let keys : List ℕ = k ∷ K in
    let row : List Env → Env → Env → Env = λ L s r. with_aggregates G (filter (same_on keys r) L) (lay (has keys) r s) in
    ap (λ L. map (row L d) (distinct_on keys L)) (fits e d on)
    ∙ ap (map (row (map (λ r. lay (has X) r d) (x e)) d)) (distinct_on-laid keys (has X) d sub (x e))
    ∙ map-map (row (map (λ r. lay (has X) r d) (x e)) d) (λ r. lay (has X) r d) (distinct_on keys (x e))
    ∙ mapped _ (λ t. lay (group_columns keys G) t d) (row (x e) e) (λ r.
    ap (λ L. with_aggregates G L (lay (has keys) (lay (has X) r d) d)) (filter-laid keys (has X) d _ _ (same_on-laid keys (has X) d sub r) (x e))
    ∙ aggregates-laid X d G reads (filter (same_on keys r) (x e)) (lay (has keys) (lay (has X) r d) d)
    ∙ ap (with_aggregates G (filter (same_on keys r) (x e))) (lay-within (has keys) (has X) sub r d d)
    ∙ sym (group-laid keys G (filter (same_on keys r) (x e)) r e d)) (distinct_on keys (x e))
