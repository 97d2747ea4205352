-- What a line gives holds of its class.
use Rattle.std.proofs.Common.{◌≡◌, refl, ap, sym, ◌∙◌, inl, inr, subst, zero, suc, ℕ, ◌-◌, ◌==◌, Bool, true, false, not, ◌&&◌, ◌||◌, ◌≤◌, if◌then◌else◌, nat_le, filter, List, [], ◌∷◌, ◌++◌, Option, Some, None, slice_get, slice_index_or}
use Rattle.std.specs.List.{AllByRecursion, list_any, list_all}
use Rattle.std.proofs.lemmas.Bool.{and_parts, or_cases, or_left, or_right, eq-eqb, eqb-true, not-true}
use Rattle.values.specs.declared.value.Value.{Value}
use Rattle.values.specs.declared.value.Value.TheVariants as value
use Rattle.values.specs.Truth.{is_null}
use Rattle.schema.specs.declared.schema.Schema.{Schema}
use Rattle.schema.specs.Databases.{Database, Satisfies, SatisfiesTable}
use Rattle.query.specs.declared.query.TableInstance.{TableInstance}
use Rattle.query.specs.Bound.{IsOver}
use Rattle.query.specs.Rows.{tables_of}
use Rattle.algebra.specs.declared.condition.Condition.{Condition}
use Rattle.algebra.specs.declared.expr.Aggregation.{Aggregation}
use Rattle.algebra.specs.declared.expr.Expr.{Expr}
use Rattle.algebra.specs.declared.expr.Expr.TheVariants.{Get, Select, Join, LeftJoin, Semi, Anti, Keep, Distinct, Group}
use Rattle.algebra.specs.Columns.{has, is_subset, is_same_set, are_disjoint}
use Rattle.algebra.specs.Equality.{same_columns}
use Rattle.algebra.specs.Bags.{Env, Test, Bag, select, has_match, join, left_join, distinct, distinct_on, group}
use Rattle.algebra.specs.Conditions.{holds, allows}
use Rattle.algebra.specs.Expressions.{means, columns_of, is_formed, names_own, is_plain, sides_formed, get_rows, get_columns, aggregate_columns, aggregation_formed, are_different, with_aggregates}
use Rattle.algebra.proofs.BagSums.{total-filter, total-zero}
use Rattle.algebra.proofs.MentionedColumns.{each_has}
use Rattle.algebra.proofs.Same.{same_columns-refl}
use Rattle.laws.specs.Keys.{count, HasNoNull, IsWeakKey, IsStrongKey, IsSingle}
use Rattle.laws.specs.Rewriting.{AreApart}
use Rattle.laws.proofs.KeyCounts.{count_filter, count_distinct, count_once, count_same, count_bad, count_bad_left}
use Rattle.laws.proofs.Overlays.{in_subset}
use Rattle.props.specs.declared.fact.Fact.{Fact}
use Rattle.props.specs.declared.fact.Fact.TheVariants.{NotNull, WeakKey, StrongKey}
use Rattle.props.specs.Facts.{FactHolds, fact_columns}
use Rattle.props.specs.Given as spec
use Rattle.props.specs.Knowledge.{Knowledge, IsTrueOf, with_rows}
use Rattle.props.specs.Outcomes.{never_true}
use Rattle.props.proofs.GroupFacts.{group-key, group-not-null, group-counts}
use Rattle.props.proofs.SingleMatches.{pinned-single}
use Rattle.props.proofs.SoundFacts.{same-holds, fewer-holds, keep-holds, weak-holds, strong-holds, rejected-holds, side-holds, left-side-holds, strong-union, weak-union, strong-left-union, weak-left-union, turned, same_on-set, beside-null}
use Rattle.props.proofs.SoundOutcomes.{never_true_is_sound}
use Rattle.props.proofs.TableFacts.{table-rows, not-null-rows, unique-key}

module _ (K : Knowledge) (rows : ℕ → Bag) (true_ : IsTrueOf K rows) where
  -- a fact that is known holds, and speaks of the class's columns
  known : (g : ℕ) (f : Fact) → spec.is_known K g f ≡ true → FactHolds (rows g) f
  known g f is = (true_.facts g f is).1

  known-columns : (g : ℕ) (f : Fact) → spec.is_known K g f ≡ true → (c : ℕ) → has (fact_columns f) c ≡ true → has (K.columns g) c ≡ true
  known-columns g f is = in_subset (fact_columns f) (K.columns g) (true_.facts g f is).0

  -- each key of a list of those that are known
  weak-among : (g : ℕ) (keys : List (List ℕ)) → ((L : List ℕ) → list_any (λ N. same_columns N L) keys ≡ true → list_any (λ N. same_columns N L) (K.facts g).weak_keys ≡ true)
      → (p : List ℕ → Bool) → list_any p keys ≡ true → (L : List ℕ) × ((p L ≡ true) × (spec.is_known K g (WeakKey L) ≡ true))
  weak-among g [] all p none = cc
  weak-among g (L ∷ keys) all p some = elim (or_cases (p L) (list_any p keys) some) [
    | inl here ↦ (L, (here, all L (or_left _ _ (same_columns-refl L))))
    | inr later ↦ weak-among g keys (λ N in_. all N (or_right (same_columns L N) _ in_)) p later
  ]

  strong-among : (g : ℕ) (keys : List (List ℕ)) → ((L : List ℕ) → list_any (λ N. same_columns N L) keys ≡ true → list_any (λ N. same_columns N L) (K.facts g).strong_keys ≡ true)
      → (p : List ℕ → Bool) → list_any p keys ≡ true → (L : List ℕ) × ((p L ≡ true) × (spec.is_known K g (StrongKey L) ≡ true))
  strong-among g [] all p none = cc
  strong-among g (L ∷ keys) all p some = elim (or_cases (p L) (list_any p keys) some) [
    | inl here ↦ (L, (here, all L (or_left _ _ (same_columns-refl L))))
    | inr later ↦ strong-among g keys (λ N in_. all N (or_right (same_columns L N) _ in_)) p later
  ]

  -- a class of which a known key is pinned
  pub single : (g : ℕ) (C : List Condition) → spec.is_single K g C ≡ true → IsSingle (holds rows C) (has (K.columns g)) (rows g)
  single g C is = elim (or_cases (list_any (spec.are_pinned (K.columns g) C) (K.facts g).weak_keys) (list_any (spec.are_pinned (K.columns g) C) (K.facts g).strong_keys) is) [
    | inl weak ↦
        let key = weak-among g (K.facts g).weak_keys (λ L in_. in_) (spec.are_pinned (K.columns g) C) weak in
        pinned-single rows (K.columns g) key.0 C (rows g) (true_.facts g (WeakKey key.0) key.1.1).0 key.1.0 (true_.facts g (WeakKey key.0) key.1.1).1
    | inr strong ↦
        let key = strong-among g (K.facts g).strong_keys (λ L in_. in_) (spec.are_pinned (K.columns g) C) strong in
        pinned-single rows (K.columns g) key.0 C (rows g) (true_.facts g (StrongKey key.0) key.1.1).0 key.1.0 (weak-holds key.0 (rows g) (true_.facts g (StrongKey key.0) key.1.1).1)
  ]

  -- a condition that is never true of Null rejects it
  rejects : (C : List Condition) (c : ℕ) → never_true C (λ k. c == k) ≡ true → (w : Env) → is_null (w c) ≡ true → holds rows C w ≡ false
  rejects C c never w null = never_true_is_sound C (λ k. c == k) rows w (λ k is. ap w (sym (eqb-true c k is)) ∙ null-is (w c) null) never
    where
      null-is : (v : Value) → is_null v ≡ true → v ≡ value.Null
      null-is value.Null is = refl
      null-is (value.Int n) is = cc
      null-is (value.Text t) is = cc

  -- ---- selections

  filtered : (x : Bag) (p : Env → Test) (f : Fact) → FactHolds x f → FactHolds (λ e. select (p e) x e) f
  filtered x p f = fewer-holds x (λ e. select (p e) x e) (λ q e. count_filter q (p e) (x e)) f

  select-rejected : (C : List Condition) (x : Bag) (c : ℕ) → never_true C (λ k. c == k) ≡ true → HasNoNull c (select (holds rows C) x)
  select-rejected C x c never e = none (x e)
    where
      none : (xs : List Env) → count (λ r. is_null (r c)) (filter (holds rows C) xs) ≡ 0
      none xs = total-filter (λ r. if is_null (r c) then 1 else 0) (holds rows C) xs ∙ total-zero _ (λ r. at (holds rows C r) (is_null (r c)) (rejects C c never r)) xs
        where
          at : (b d : Bool) → (d ≡ true → b ≡ false) → ◌≡◌ {A = ℕ} (if b then (if d then 1 else 0) else 0) 0
          at true true h = cc (h refl)
          at true false h = refl
          at false d h = refl

  by-select : (C : List Condition) (x : ℕ) (f : Fact) → spec.by_select K C x f ≡ true → FactHolds (select (holds rows C) (rows x)) f
  by-select C x (NotNull c) is = elim (or_cases (spec.is_known K x (NotNull c)) (spec.is_rejected K x C c) is) [
    | inl here ↦ filtered (rows x) (λ e. holds rows C) (NotNull c) (known x (NotNull c) here)
    | inr never ↦ select-rejected C (rows x) c (and_parts (has (K.columns x) c) _ never).1
  ]
  by-select C x (WeakKey L) is = filtered (rows x) (λ e. holds rows C) (WeakKey L) (known x (WeakKey L) is)
  by-select C x (StrongKey L) is = filtered (rows x) (λ e. holds rows C) (StrongKey L) (known x (StrongKey L) is)

  -- ---- joins

  module _ (C : List Condition) (a b : ℕ) (apart : AreApart (has (K.columns a)) (has (K.columns b))) where
    abbrev p : Test
    p = holds rows C

    apart-turned : AreApart (has (K.columns b)) (has (K.columns a))
    apart-turned c in_ = at (has (K.columns a) c) (has (K.columns b) c) (apart c) in_
      where
        at : (x y : Bool) → (x ≡ true → y ≡ false) → y ≡ true → x ≡ false
        at true true h is = cc (h refl)
        at true false h is = cc
        at false y h is = refl

    left-out : (f : Fact) → spec.is_known K a f ≡ true → (c : ℕ) → has (fact_columns f) c ≡ true → has (K.columns b) c ≡ false
    left-out f is c in_ = apart c (known-columns a f is c in_)

    right-out : (f : Fact) → spec.is_known K b f ≡ true → (c : ℕ) → has (fact_columns f) c ≡ true → has (K.columns a) c ≡ false
    right-out f is c in_ = apart-turned c (known-columns b f is c in_)

    turn : (f : Fact) → FactHolds (join p (has (K.columns a)) (rows b) (rows a)) f → FactHolds (join p (has (K.columns b)) (rows a) (rows b)) f
    turn f = same-holds _ _ (turned p (has (K.columns a)) (has (K.columns b)) (K.free a) (K.free b) (rows a) (rows b) (true_.fits a) (true_.fits b) apart) f

    left-side : (f : Fact) → spec.by_side K C a b f ≡ true → FactHolds (join p (has (K.columns b)) (rows a) (rows b)) f
    left-side f is = let parts = and_parts (spec.is_known K a f) (spec.is_single K b C) is in side-holds p (has (K.columns b)) (rows a) (rows b) f (left-out f parts.0) (single b C parts.1) (known a f parts.0)

    right-side : (f : Fact) → spec.by_side K C b a f ≡ true → FactHolds (join p (has (K.columns b)) (rows a) (rows b)) f
    right-side f is = let parts = and_parts (spec.is_known K b f) (spec.is_single K a C) is in turn f (side-holds p (has (K.columns a)) (rows b) (rows a) f (right-out f parts.0) (single a C parts.1) (known b f parts.0))

    weak-unions : (N : List ℕ) → spec.is_union (K.facts a).weak_keys (K.facts b).weak_keys N ≡ true
        → IsWeakKey N (join p (has (K.columns b)) (rows a) (rows b)) × IsWeakKey N (left_join p (has (K.columns b)) (rows a) (rows b))
    weak-unions N is =
        let one = weak-among a (K.facts a).weak_keys (λ L in_. in_) (λ L. list_any (λ M. is_same_set N (L ++ M)) (K.facts b).weak_keys) is in
        let two = weak-among b (K.facts b).weak_keys (λ L in_. in_) (λ M. is_same_set N (one.0 ++ M)) one.1.0 in
        let out = left-out (WeakKey one.0) one.1.1 in
        let in_ = known-columns b (WeakKey two.0) two.1.1 in (
          weak-union p (has (K.columns b)) (rows a) (rows b) one.0 two.0 N two.1.0 out in_ (known a (WeakKey one.0) one.1.1) (known b (WeakKey two.0) two.1.1),
          weak-left-union p (has (K.columns b)) (rows a) (rows b) one.0 two.0 N two.1.0 out in_ (known a (WeakKey one.0) one.1.1) (known b (WeakKey two.0) two.1.1),
        )

    strong-unions : (N : List ℕ) → spec.is_union (K.facts a).strong_keys (K.facts b).strong_keys N ≡ true
        → IsStrongKey N (join p (has (K.columns b)) (rows a) (rows b)) × IsStrongKey N (left_join p (has (K.columns b)) (rows a) (rows b))
    strong-unions N is =
        let one = strong-among a (K.facts a).strong_keys (λ L in_. in_) (λ L. list_any (λ M. is_same_set N (L ++ M)) (K.facts b).strong_keys) is in
        let two = strong-among b (K.facts b).strong_keys (λ L in_. in_) (λ M. is_same_set N (one.0 ++ M)) one.1.0 in
        let out = left-out (StrongKey one.0) one.1.1 in
        let in_ = known-columns b (StrongKey two.0) two.1.1 in (
          strong-union p (has (K.columns b)) (rows a) (rows b) one.0 two.0 N two.1.0 out in_ (known a (StrongKey one.0) one.1.1) (known b (StrongKey two.0) two.1.1),
          strong-left-union p (has (K.columns b)) (rows a) (rows b) one.0 two.0 N two.1.0 out in_ (known a (StrongKey one.0) one.1.1) (known b (StrongKey two.0) two.1.1),
        )

    no-null-left : (c : ℕ) → spec.is_known K a (NotNull c) ≡ true → HasNoNull c (join p (has (K.columns b)) (rows a) (rows b)) × HasNoNull c (left_join p (has (K.columns b)) (rows a) (rows b))
    no-null-left c is =
        let out = left-out (NotNull c) is c (or_left (c == c) false (eq-eqb c c refl)) in (
          λ e. count_bad (λ r. is_null (r c)) p (has (K.columns b)) (rows a) (rows b) (beside-null (has (K.columns b)) c out) e (known a (NotNull c) is e),
          λ e. count_bad_left (λ r. is_null (r c)) p (has (K.columns b)) (rows a) (rows b) (beside-null (has (K.columns b)) c out) e (known a (NotNull c) is e),
        )

    no-null-right : (c : ℕ) → spec.is_known K b (NotNull c) ≡ true → HasNoNull c (join p (has (K.columns b)) (rows a) (rows b))
    no-null-right c is =
        let out = right-out (NotNull c) is c (or_left (c == c) false (eq-eqb c c refl)) in
        turn (NotNull c) (λ e. count_bad (λ r. is_null (r c)) p (has (K.columns a)) (rows b) (rows a) (beside-null (has (K.columns a)) c out) e (known b (NotNull c) is e))

    no-null-rejected : (g c : ℕ) → spec.is_rejected K g C c ≡ true → HasNoNull c (join p (has (K.columns b)) (rows a) (rows b))
    no-null-rejected g c is = rejected-holds p (has (K.columns b)) (rows a) (rows b) c (rejects C c (and_parts (has (K.columns g) c) _ is).1)

    by-join : (f : Fact) → spec.by_join K C a b f ≡ true → FactHolds (join p (has (K.columns b)) (rows a) (rows b)) f
    by-join (NotNull c) is = elim (or_cases (spec.is_known K a (NotNull c) || spec.is_known K b (NotNull c) || spec.is_rejected K a C c) (spec.is_rejected K b C c) is) [
      | inr last ↦ no-null-rejected b c last
      | inl front ↦ elim (or_cases (spec.is_known K a (NotNull c) || spec.is_known K b (NotNull c)) (spec.is_rejected K a C c) front) [
        | inr third ↦ no-null-rejected a c third
        | inl sides ↦ elim (or_cases (spec.is_known K a (NotNull c)) (spec.is_known K b (NotNull c)) sides) [
          | inl left ↦ (no-null-left c left).0
          | inr right ↦ no-null-right c right
        ]
      ]
    ]
    by-join (WeakKey L) is = elim (or_cases (spec.by_side K C a b (WeakKey L) || spec.by_side K C b a (WeakKey L)) (spec.is_union (K.facts a).weak_keys (K.facts b).weak_keys L) is) [
      | inr union ↦ (weak-unions L union).0
      | inl sides ↦ elim (or_cases (spec.by_side K C a b (WeakKey L)) (spec.by_side K C b a (WeakKey L)) sides) [ inl left ↦ left-side (WeakKey L) left | inr right ↦ right-side (WeakKey L) right ]
    ]
    by-join (StrongKey L) is = elim (or_cases (spec.by_side K C a b (StrongKey L) || spec.by_side K C b a (StrongKey L)) (spec.is_union (K.facts a).strong_keys (K.facts b).strong_keys L) is) [
      | inr union ↦ (strong-unions L union).0
      | inl sides ↦ elim (or_cases (spec.by_side K C a b (StrongKey L)) (spec.by_side K C b a (StrongKey L)) sides) [ inl left ↦ left-side (StrongKey L) left | inr right ↦ right-side (StrongKey L) right ]
    ]

    padded-side : (f : Fact) → spec.by_side K C a b f ≡ true → FactHolds (left_join p (has (K.columns b)) (rows a) (rows b)) f
    padded-side f is = let parts = and_parts (spec.is_known K a f) (spec.is_single K b C) is in left-side-holds p (has (K.columns b)) (rows a) (rows b) f (left-out f parts.0) (single b C parts.1) (known a f parts.0)

    by-left_join : (f : Fact) → spec.by_left_join K C a b f ≡ true → FactHolds (left_join p (has (K.columns b)) (rows a) (rows b)) f
    by-left_join (NotNull c) is = (no-null-left c is).1
    by-left_join (WeakKey L) is = elim (or_cases (spec.by_side K C a b (WeakKey L)) (spec.is_union (K.facts a).weak_keys (K.facts b).weak_keys L) is) [
      | inl side ↦ padded-side (WeakKey L) side
      | inr union ↦ (weak-unions L union).1
    ]
    by-left_join (StrongKey L) is = elim (or_cases (spec.by_side K C a b (StrongKey L)) (spec.is_union (K.facts a).strong_keys (K.facts b).strong_keys L) is) [
      | inl side ↦ padded-side (StrongKey L) side
      | inr union ↦ (strong-unions L union).1
    ]

  -- ---- distinct rows

  of-known : (x : ℕ) (f : Fact) → spec.is_known K x f ≡ true → FactHolds (distinct (K.columns x) (rows x)) f
  of-known x f is =
      keep-holds (K.columns x) (λ e. distinct_on (K.columns x) (rows x e)) f (true_.facts x f is).0
      (fewer-holds (rows x) (λ e. distinct_on (K.columns x) (rows x e)) (λ q e. count_distinct q (K.columns x) (rows x e)) f (known x f is))

  by-distinct : (x : ℕ) (f : Fact) → spec.by_distinct K x f ≡ true → FactHolds (distinct (K.columns x) (rows x)) f
  by-distinct x (NotNull c) is = of-known x (NotNull c) is
  by-distinct x (WeakKey L) is = of-known x (WeakKey L) is
  by-distinct x (StrongKey L) is = elim (or_cases (spec.is_known K x (StrongKey L)) (is_same_set L (K.columns x)) is) [
    | inl here ↦ of-known x (StrongKey L) here
    | inr all ↦ keep-holds (K.columns x) (λ e. distinct_on (K.columns x) (rows x e)) (StrongKey L) (and_parts (is_subset L (K.columns x)) _ all).0
        (λ e r. subst (λ n. n ≤ 1) (sym (count_same _ _ (λ s. same_on-set L (K.columns x) all r s) (distinct_on (K.columns x) (rows x e)))) (count_once (K.columns x) r (rows x e)))
  ]

  -- ---- groups

  by-group : (own G : List Aggregation) (L : List ℕ) (x : ℕ) (f : Fact) → is_subset L (K.columns x) ≡ true → list_all (aggregation_formed own (K.columns x)) G ≡ true
      → spec.by_group K L G x f ≡ true → FactHolds (group L (with_aggregates G) (rows x)) f
  by-group own G L x (NotNull c) keys formed is = elim (or_cases (has L c && spec.is_known K x (NotNull c)) (spec.counts G c) is) [
    | inl key ↦ let parts = and_parts (has L c) (spec.is_known K x (NotNull c)) key in group-not-null own G (K.columns x) formed (rows x) L c keys parts.0 (known x (NotNull c) parts.1)
    | inr count ↦ group-counts own G (K.columns x) formed (rows x) L c count
  ]
  by-group own G L x (WeakKey N) keys formed is = cc
  by-group own G L x (StrongKey N) keys formed is = group-key own G (K.columns x) formed (rows x) L N keys is

  -- ---- other facts of the class

  by-others : (g : ℕ) (f : Fact) → spec.by_others K g f ≡ true → FactHolds (rows g) f
  by-others g (NotNull c) is = cc
  by-others g (WeakKey L) is = weak-holds L (rows g) (known g (StrongKey L) is)
  by-others g (StrongKey L) is =
      let parts = and_parts (spec.is_known K g (WeakKey L)) (list_all (λ c. spec.is_known K g (NotNull c)) L) is in
      strong-holds L (rows g) (known g (WeakKey L) parts.0) (λ c in_. known g (NotNull c) (each_has (λ c. spec.is_known K g (NotNull c)) L parts.1 c in_))

-- ---- tables

module _ (S : Schema) (D : Database) (satisfies : Satisfies S D) where
  by-table : (u : Option TableInstance) → ((t : TableInstance) → u ≡ Some t → IsOver S t) → (f : Fact) → is_subset (fact_columns f) (get_columns u) ≡ true → spec.by_table u f ≡ true
      → FactHolds (get_rows u (tables_of S D)) f
  by-table None over f within is = cc
  by-table (Some t) over (NotNull c) within is =
      let parts = and_parts (nat_le t.first_column c) (spec.is_not_null_at t.entry.columns (c - t.first_column)) is in
      let stored : SatisfiesTable t.entry (slice_index_or D t.table []) = table-rows S.tables D t.table t.entry satisfies (over t refl) in
      λ e. not-null-rows t e (slice_index_or D t.table []) stored.fit c parts.0 parts.1
  by-table (Some t) over (WeakKey L) within is =
      let stored : SatisfiesTable t.entry (slice_index_or D t.table []) = table-rows S.tables D t.table t.entry satisfies (over t refl) in
      unique-key t (slice_index_or D t.table []) L t.entry.unique stored.unique is within
  by-table (Some t) over (StrongKey L) within is = cc

  -- the table instance of a number is over the schema
  over-at : (instances : List TableInstance) → AllByRecursion (IsOver S) instances → (o : ℕ) (t : TableInstance) → slice_get instances o ≡ Some t → IsOver S t
  over-at [] over o t at = cc
  over-at (u ∷ instances) over zero t at = let is : u ≡ t = cc in subst (IsOver S) is over.0
  over-at (u ∷ instances) over (suc o) t at = over-at instances over.1 o t at

  -- ---- lines

  module _ (instances : List TableInstance) (over : AllByRecursion (IsOver S) instances) (own : List Aggregation) (K : Knowledge) (rows : ℕ → Bag) (true_ : IsTrueOf K rows) where
    sides : (C : List Condition) (a b : ℕ) → is_formed instances own K.columns (Join C a b) ≡ true → AreApart (has (K.columns a)) (has (K.columns b))
    sides C a b formed c in_ =
        let parts = and_parts (names_own instances own C) (sides_formed C (K.columns a) (K.columns b)) formed in
        let apart = and_parts (is_plain C) (are_disjoint (K.columns a) (K.columns b)) parts.1 in
        not-true _ (each_has (λ k. not (has (K.columns b) k)) (K.columns a) apart.1 c in_)

    by-line : (x : Expr) (f : Fact) → is_formed instances own K.columns x ≡ true → is_subset (fact_columns f) (columns_of instances K.columns x) ≡ true → spec.by_line instances K x f ≡ true
        → FactHolds (means instances (tables_of S D) (with_rows K rows) x) f
    by-line (Get o) f formed within is = by-table (slice_get instances o) (λ t at. over-at instances over o t at) f within is
    by-line (Select C x) f formed within is = by-select K rows true_ C x f is
    by-line (Join C a b) f formed within is = by-join K rows true_ C a b (sides C a b formed) f is
    by-line (LeftJoin C a b) f formed within is = by-left_join K rows true_ C a b (sides C a b formed) f is
    by-line (Semi C a b) f formed within is = filtered K rows true_ (rows a) (λ e. has_match (holds rows C) (has (K.columns b)) (rows b e)) f (known K rows true_ a f is)
    by-line (Anti N M a b) f formed within is =
        filtered K rows true_ (rows a) (λ e r. not (has_match (λ w. holds rows N w && allows rows M w) (has (K.columns b)) (rows b e) r)) f (known K rows true_ a f is)
    by-line (Keep L x) f formed within is = let parts = and_parts (spec.is_known K x f) (is_subset (fact_columns f) L) is in keep-holds L (rows x) f parts.1 (known K rows true_ x f parts.0)
    by-line (Distinct x) f formed within is = by-distinct K rows true_ x f is
    by-line (Group L G x) f formed within is =
        let parts = and_parts (is_subset L (K.columns x) && are_different (aggregate_columns G)) (list_all (aggregation_formed own (K.columns x)) G) formed in
        by-group K rows true_ own G L x f (and_parts (is_subset L (K.columns x)) (are_different (aggregate_columns G)) parts.0).0 parts.1 is

pub given_facts_hold : spec.GivenFactsHold
given_facts_hold S D satisfies instances over own K rows true_ g x formed columns same f within is =
    let parts = and_parts (spec.is_short f) (spec.by_others K g f || spec.by_line instances K x f) is in
    elim (or_cases (spec.by_others K g f) (spec.by_line instances K x f) parts.1) [
      | inl others ↦ by-others K rows true_ g f others
      | inr line ↦
          same-holds (means instances (tables_of S D) (with_rows K rows) x) (rows g) (λ e h. sym (same e h)) f
          (by-line S D satisfies instances over own K rows true_ x f formed (ap (is_subset (fact_columns f)) columns ∙ within) line)
    ]
