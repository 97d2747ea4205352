-- Distinct rows and groups, as those of the algebra.
use Rattle.std.proofs.Common.{◌≡◌, refl, ap, sym, ◌∙◌, subst, ℕ, ◌<◌, Bool, true, false, ◌&&◌, ◌||◌, not, if◌then◌else◌, List, [], ◌∷◌, ◌++◌, length, map, filter, Option, Some, None, arith}
use Rattle.std.specs.Cmp.{both_ways}
use mathlib.Core.List.{map-map}
use Rattle.std.proofs.lemmas.List.{length-map}
use Rattle.grouping.specs.declared.row_groups.Groups.{Groups}
use Rattle.grouping.specs.Grouped.{groups_in}
use Rattle.values.specs.declared.value.Value.{Value}
use Rattle.values.specs.Order.{same}
use Rattle.values.specs.contracts.value.ValuePartialEq.TheImpl as value_eq
use Rattle.values.proofs.Orders.{same_equal, same_itself}
use Rattle.schema.specs.Databases.{Row}
use Rattle.store.specs.Keys.{key_eq, value_decides}
use Rattle.algebra.specs.declared.expr.Aggregation.{Aggregation}
use Rattle.algebra.specs.Columns.{has, rising}
use Rattle.algebra.specs.Bags.{Env, Bag, lay, same_on, distinct_on, group}
use Rattle.algebra.specs.Expressions.{with_aggregates, aggregate_columns}
use Rattle.algebra.proofs.Lists.{through, all-each, distinct_by, distinct-map, distinct-same}
use Rattle.algebra.proofs.Puts.{among-append}
use Rattle.algebra.proofs.Sets.{has-rising}
use Rattle.algebra.proofs.UniqueRows.{distinct_on-by}
use Rattle.algebra.proofs.AggregateLists.{aggregates-outside}
use Rattle.grouping.specs.declared.groups.Grouping.{Grouping}
use Rattle.relations.specs.declared.headings.Heading.{Heading}
use Rattle.relations.specs.declared.relation.Relation.{Relation}
use Rattle.relations.specs.declared.headings.Place.{Place}
use Rattle.relations.specs.Parts.{row_at, value_in}
use Rattle.relations.specs.Places.{listed}
use Rattle.relations.specs.Relations.{column_place, column_places, row_env, numbered_env, numbers_of, rows_of}
use Rattle.grouping.specs.RowNumbers.{numbers_in}
use Rattle.grouping.specs.Groups.{GroupOf, first_seen, groups_by, key_at, same_at, group_env, group_envs, member_envs, placed_groups, row_group_envs}
use Rattle.relations.proofs.ColumnPlaces.{found-column, other-column}

-- ---- rows that are the same

values-same : (v w : Value) → same v w ≡ value_eq.ghosts.eq v w
values-same v w = both_ways (same v w) (value_eq.ghosts.eq v w) (λ t. (value_decides v w).1 (same_equal v w t)) (λ t. subst (λ x. same v x ≡ true) ((value_decides v w).0 t) (same_itself v))

-- rows are the same in columns where their values at the columns' places are
pub same-key : (h : Heading) (r s : List Row) (e : Env) (K : List ℕ) → same_on K (row_env h r e) (row_env h s e) ≡ key_eq (key_at (column_places h K) r) (key_at (column_places h K) s)
same-key h r s e [] = refl
same-key h r s e (k ∷ K) = by (column_place h k) refl (same-key h r s e K)
  where
    rest : Bool
    rest = same_on K (row_env h r e) (row_env h s e)

    by : (o : Option Place) → column_place h k ≡ o → rest ≡ key_eq (key_at (column_places h K) r) (key_at (column_places h K) s)
        → (same (row_env h r e k) (row_env h s e k) && rest) ≡ key_eq (key_at (listed o ++ column_places h K) r) (key_at (listed o ++ column_places h K) s)
    by None is later =
        ap (λ v. same v (row_env h s e k) && rest) (other-column h r e k (sym is)) ∙ ap (λ v. same (e k) v && rest) (other-column h s e k (sym is))
        ∙ ap (λ b. b && rest) (same_itself (e k)) ∙ later
    by (Some p) is later =
        ap (λ v. same v (row_env h s e k) && rest) (found-column h r e k p (sym is)) ∙ ap (λ v. same (value_in (Some p) r) v && rest) (found-column h s e k p (sym is))
        ∙ ap (λ b. b && rest) (values-same (value_in (Some p) r) (value_in (Some p) s))
        ∙ ap (λ b. value_eq.ghosts.eq (value_in (Some p) r) (value_in (Some p) s) && b) later

first-distinct : {X : Type 0} (alike : X → X → Bool) (xs : List X) → first_seen alike xs ≡ distinct_by alike xs
first-distinct alike [] = refl
first-distinct alike (x ∷ xs) = ap (λ ys. x ∷ filter (λ y. not (alike x y)) ys) (first-distinct alike xs)

-- the first rows of the algebra are those that are first seen, where rows are given by their numbers
pub distinct-numbers : (K : List ℕ) (row : ℕ → Env) (alike : ℕ → ℕ → Bool) (numbers : List ℕ) → ((m n : ℕ) → same_on K (row m) (row n) ≡ alike m n) → distinct_on K (map row numbers) ≡ map row (first_seen alike numbers)
distinct-numbers K row alike numbers same =
    distinct_on-by K (map row numbers) ∙ distinct-map row (same_on K) numbers
    ∙ ap (map row) (distinct-same (λ n. Unit {0}) (λ m n. same_on K (row m) (row n)) alike numbers (λ m n p q. same m n) (all-each (λ n. Unit {0}) (λ n. tt) numbers) ∙ sym (first-distinct alike numbers))

pub distinct-envs : (input : Relation) (e : Env) (K : List ℕ) → distinct_on K (rows_of input e) ≡ map (numbered_env input e) (first_seen (same_at (column_places input.heading K) input.rows) (numbers_of input))
distinct-envs input e K =
    distinct-numbers K (numbered_env input e) (same_at (column_places input.heading K) input.rows) (numbers_of input)
    (λ m n. same-key input.heading (row_at input.rows.parts.items m) (row_at input.rows.parts.items n) e K)

-- rows are the same in columns where their values there are
pub same-values : (r s : Env) (K : List ℕ) → same_on K r s ≡ key_eq (map r K) (map s K)
same-values r s [] = refl
same-values r s (k ∷ K) = ap (λ b. b && same_on K r s) (values-same (r k) (s k)) ∙ ap (λ b. value_eq.ghosts.eq (r k) (s k) && b) (same-values r s K)

-- ---- distinct rows

-- a row has its columns, and else is the environment
laid-row : (h : Heading) (r : List Row) (e : Env) → lay (has h.columns) (row_env h r e) e ≡ row_env h r e
laid-row h r e = λ i c. pointwise c i
  where
    pointwise : (c : ℕ) → lay (has h.columns) (row_env h r e) e c ≡ row_env h r e c
    pointwise c = by (has h.columns c)
      where
        by : (b : Bool) → (if b then (if b then value_in (column_place h c) r else e c) else e c) ≡ (if b then value_in (column_place h c) r else e c)
        by true = refl
        by false = refl

pub distinct-rows : (input : Relation) (numbers : List ℕ) (e : Env) → map (numbered_env input e) numbers ≡ distinct_on input.heading.columns (rows_of input e)
    → map (numbered_env input e) numbers ≡ map (λ r. lay (has input.heading.columns) r e) (distinct_on input.heading.columns (rows_of input e))
distinct-rows input numbers e same =
    let row : ℕ → Env = numbered_env input e in
    sym (ap (map (λ r. lay (has input.heading.columns) r e)) (sym same) ∙ map-map (λ r. lay (has input.heading.columns) r e) row numbers
    ∙ (λ i. map (λ n. laid-row input.heading (row_at input.rows.parts.items n) e i) numbers))

-- ---- groups

group-some : (K : List ℕ) (add : List Env → Env → Env) (x : Bag) (e : Env) → 0 < length K → group K add x e ≡ map (λ r. add (filter (same_on K r) (x e)) (lay (has K) r e)) (distinct_on K (x e))
group-some [] add x e h = absurd (omega (arith, h))
group-some (k ∷ K) add x e h = refl

-- the rows of the groups by some columns, where rows are given by their numbers
pub numbered-groups : (g : Grouping) (row : ℕ → Env) (alike : ℕ → ℕ → Bool) (numbers : List ℕ) (x : Bag) (e : Env) → ((m n : ℕ) → same_on g.keys.now (row m) (row n) ≡ alike m n) → map row numbers ≡ x e → 0 < length g.keys.now
    → row_group_envs g row e (groups_by alike numbers) ≡ group g.keys.now (with_aggregates g.added.now) x e
numbered-groups g row alike numbers x e same is some =
    let K = g.keys.now in
    let firsts : List ℕ = first_seen alike numbers in
    let found : ℕ → GroupOf ℕ = λ n. record { first = n; rows = filter (alike n) numbers } in
    let show : GroupOf ℕ → Env = λ group. group_env g (map row group.rows) (row group.first) e in
    let one : Env → Env = λ r. with_aggregates g.added.now (filter (same_on K r) (map row numbers)) (lay (has K) r e) in
    let shown : (n : ℕ) → show (found n) ≡ one (row n) =
    λ n. ap (λ members. with_aggregates g.added.now members (lay (has K) (row n) e)) (sym (through (λ m. Unit {0}) row (same_on K (row n)) (alike n) numbers (λ m p. same n m) (all-each (λ m. Unit {0}) (λ m. tt) numbers))) in
    map-map show found firsts ∙ (λ i. map (λ n. shown n i) firsts) ∙ sym (map-map one row firsts)
    ∙ sym (ap (map one) (distinct-numbers K row alike numbers same))
    ∙ ap (λ rows. map (λ r. with_aggregates g.added.now (filter (same_on K r) rows) (lay (has K) r e)) (distinct_on K rows)) is
    ∙ sym (group-some K (with_aggregates g.added.now) x e some)

pub group-rows : (g : Grouping) (input : Relation) (e : Env) → 0 < length g.keys.now
    → group_envs g input e (placed_groups (column_places input.heading g.keys.now) input) ≡ group g.keys.now (with_aggregates g.added.now) (rows_of input) e
group-rows g input e some =
    let K = g.keys.now in
    numbered-groups g (numbered_env input e) (same_at (column_places input.heading K) input.rows) (numbers_of input) (rows_of input) e
    (λ m n. same-key input.heading (row_at input.rows.parts.items m) (row_at input.rows.parts.items n) e K) refl some

-- without keys there is one group
pub no-keys : (K : List ℕ) (add : List Env → Env → Env) (x : Bag) (e : Env) → length K ≡ 0 → add (x e) e ∷ [] ≡ group K add x e
no-keys [] add x e none = refl
no-keys (k ∷ K) add x e none = absurd (omega (arith, none))

-- ---- the columns of groups

-- a group's row has the columns of the keys and of the aggregates, and else is the environment
laid-group : (K : List ℕ) (A : List Aggregation) (rows : List Env) (r e : Env) → lay (has (rising (K ++ aggregate_columns A))) (with_aggregates A rows (lay (has K) r e)) e ≡ with_aggregates A rows (lay (has K) r e)
laid-group K A rows r e = λ i c. pointwise c i
  where
    base : Env
    base = lay (has K) r e

    pointwise : (c : ℕ) → lay (has (rising (K ++ aggregate_columns A))) (with_aggregates A rows base) e c ≡ with_aggregates A rows base c
    pointwise c = ap (λ b. if b then with_aggregates A rows base c else e c) (has-rising c (K ++ aggregate_columns A) ∙ among-append c K (aggregate_columns A)) ∙ by (has K c) refl (has (aggregate_columns A) c) refl
      where
        by : (a : Bool) → has K c ≡ a → (b : Bool) → has (aggregate_columns A) c ≡ b → (if a || b then with_aggregates A rows base c else e c) ≡ with_aggregates A rows base c
        by true there b is = refl
        by false there true is = refl
        by false absent false is = sym (aggregates-outside A rows base c is ∙ ap (λ b. if b then r c else e c) absent)

pub group-laid : (K : List ℕ) (A : List Aggregation) (x : Bag) (e : Env) → map (λ f. lay (has (rising (K ++ aggregate_columns A))) f e) (group K (with_aggregates A) x e) ≡ group K (with_aggregates A) x e
group-laid [] A x e = ap (λ f. f ∷ []) (laid-group [] A (x e) e e)
group-laid (k ∷ K) A x e =
    let L = k ∷ K in
    let one : Env → Env = λ r. with_aggregates A (filter (same_on L r) (x e)) (lay (has L) r e) in
    map-map (λ f. lay (has (rising (L ++ aggregate_columns A))) f e) one (distinct_on L (x e)) ∙ (λ i. map (λ r. laid-group L A (filter (same_on L r) (x e)) r e i) (distinct_on L (x e)))

-- there are as many groups as first rows
pub groups-many : (g : Grouping) (G : Groups) (e : Env) → length (group_envs g G.input.now e (groups_in G)) ≡ length (numbers_in G.firsts)
groups-many g G e =
    let same : ℕ → ℕ → Bool = same_at G.places.items G.input.now.rows in
    length-map (groups_in G) (λ group. group_env g (member_envs G.input.now e group) (numbered_env G.input.now e group.first) e)
    ∙ length-map (first_seen same (numbers_of G.input.now)) (λ n. record { first = n; rows = filter (same n) (numbers_of G.input.now) }) ∙ ap length (sym G.seen)
